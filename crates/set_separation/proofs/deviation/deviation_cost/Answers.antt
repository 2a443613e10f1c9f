use Rattle.std.proofs.Common.{rules, arith, length}
use Rattle.design_problem.specs.Problems.{request_ends}
use Rattle.set_separation.proofs.DeviationLemmas.{place_below}
use Rattle.set_separation.proofs.deviation.deviation_cost.Goals as goal

pub overflow_add-result : goal.overflow_add-result
overflow_add-result c =
    let near = place_below c.args.outlook.now.graph.now (request_ends c.args.outlook.now.request.now) c.requires.tree.0 c.args.costed.now.tree.now
    c.requires.tree.1 c.args.outlook.now.point.now c.args.costed.now.costs.now (length c.args.costed.now.tree.now) (omega arith) c.requires.costs
    c.keeps_conditions.ensures.fits c.keeps_conditions.ensures.metrics c.requires.fits c.args.place
    c.requires.place in
    let below = c.in-Some.ensures.below in
    let scale = c.requires.fits.scale_below in
    omega arith

pub returns-in-None : goal.returns-in-None
returns-in-None c = λ total deviates. c.in-None.ensures.onward deviates.rest deviates.onward

pub returns-in-Some : goal.returns-in-Some
returns-in-Some c = search rules
