use Rattle.std.proofs.Common.{rules, ◌<◌, ◌+◌, ◌*◌, ◌^◌, ◌∙◌, ap, sym, arith}
use Rattle.area_graph.specs.declared.Edge.{Edge}
use Rattle.area_graph.specs.Costs.{price_at}
use Rattle.design_problem.specs.Problems.{request_ends}
use Rattle.spf_ties.specs.Distances.{distance_at}
use Rattle.rival_separation.proofs.RivalLemmas.{onward_below}
use Rattle.rival_separation.proofs.deviation.onward.Goals as goal

below : (c : goal.After-price_of) → c.price_of.result + c.in-Some.rest < 2 ^ 27 * c.args.outlook.now.point.now.scale
below c =
    onward_below c.args.outlook.now.graph.now c.args.outlook.now.point.now (request_ends c.args.outlook.now.request.now) c.requires.found.0 c.args.room.now
    c.args.number c.price_of.result c.in-Some.rest
    c.keeps_conditions.ensures.fits c.keeps_conditions.ensures.metrics c.requires.fits c.requires.found.1 c.requires.known
    (c.price_of.ensures ∙ ap (λ (edge : Edge). price_at c.args.outlook.now.point.now edge.price) c.edge_of-edge.ensures)
    (ap (λ (edge : Edge). distance_at c.args.room.now edge.to) (sym c.edge_of-edge.ensures) ∙ sym c.in-Some.ensures)

pub overflow_add-result : goal.overflow_add-result
overflow_add-result c = omega (arith, below c, c.requires.fits.scale_below)

pub returns-in-Some-clause-below : goal.returns-in-Some-clause-below
returns-in-Some-clause-below c = below c

pub returns-in-Some-clause-onward : goal.returns-in-Some-clause-onward
returns-in-Some-clause-onward c = search rules
