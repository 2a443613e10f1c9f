use Rattle.std.proofs.Common.{List, ℕ, map, ap, ◌∙◌}
use Rattle.std.proofs.lemmas.List.{take_all}
use Rattle.lsdb_build.specs.Neighbours.{Port}
use Rattle.lsdb_build.specs.Tallies.{subnet_of}
use Rattle.lsdb_build.specs.Places.{places_at}
use Rattle.lsdb_build.proofs.links.subnets_of.Goals as goal

pub returns : goal.returns
returns c = λ links are.
    let transit = c.args.transit.now in
    c.loop-first.invariant
    ∙ ap (map (λ (first : Port). places_at c.args.places.now.by_subnet (subnet_of first))) (take_all c.loop-first.first-index transit c.loop-first-test.false)
    ∙ ap (λ (members : Port → List ℕ). map members transit) (λ i p. are p i)
