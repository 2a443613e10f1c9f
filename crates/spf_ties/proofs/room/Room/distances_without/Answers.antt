use Rattle.spf_ties.proofs.LeastCosts.{least_of_all}
use Rattle.area_graph.proofs.Bounds.{cost_below as bounded_cost}
use Rattle.spf_ties.proofs.room.Room.distances_without.Goals as goal

pub returns-clause-least : goal.returns-clause-least
returns-clause-least c = λ v start. least_of_all c.args.graph.now c.args.point.now _ _ c.keeps_conditions.ensures.fits
    c.keeps_conditions.ensures.metrics c.requires.fits (c.distances_within.ensures.least v start)

pub returns-clause-tight : goal.returns-clause-tight
returns-clause-tight c = λ v path is.
    c.distances_within.ensures.tight v path is
    (bounded_cost c.args.graph.now c.args.point.now v path c.args.target c.keeps_conditions.ensures.fits
    c.keeps_conditions.ensures.metrics c.requires.fits is.simple.joins is.simple.none_twice)
