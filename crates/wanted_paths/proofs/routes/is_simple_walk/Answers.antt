use Rattle.wanted_paths.proofs.routes.is_simple_walk.Goals as goal

pub returns : goal.returns
returns c = c.is_simple.ensures
