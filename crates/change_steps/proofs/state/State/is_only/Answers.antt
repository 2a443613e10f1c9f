use Rattle.change_steps.proofs.StateLaws.{point_fits}
use Rattle.change_steps.proofs.state.State.is_only.Goals as goal

pub find_rival-requires-clause-fits : goal.find_rival-requires-clause-fits
find_rival-requires-clause-fits c =
    point_fits c.args.rollout.now c.graph.result.now c.args.self.now.done.items c.args.self.now.point c.keeps_conditions.ensures c.graph.ensures
    c.requires.state.point
