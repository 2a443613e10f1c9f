use Rattle.std.proofs.Common.{ap, ◌∙◌}
use Rattle.lsdb_build.specs.Places.{places_or_none, places_at}
use Rattle.lsdb_build.proofs.places.Places.on.Goals as goal

pub returns-in-Some : goal.returns-in-Some
returns-in-Some c = c.as_slice.ensures.value ∙ ap places_or_none c.in-Some.ensures.value ∙ ap (places_at c.args.self.now.by_subnet) c.subnet_of.ensures

pub returns-in-None : goal.returns-in-None
returns-in-None c = ap places_or_none c.in-None.ensures.value ∙ ap (places_at c.args.self.now.by_subnet) c.subnet_of.ensures
