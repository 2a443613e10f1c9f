use Rattle.area_graph.specs.Costs.{cost}
use Rattle.design_problem.specs.Problems.{request_ends}
use Rattle.set_separation.proofs.DeviationLemmas.{leads_not}
use Rattle.set_separation.proofs.outsider.paths_lead.Goals as goal

pub returns-in-Some-clause-outsider : goal.returns-in-Some-clause-outsider
returns-in-Some-clause-outsider c = λ wanted tied.
    let g = c.args.outlook.now.graph.now in
    let p = c.args.outlook.now.point.now in
    let found = c.requires.found in
    let best = c.in-Some.ensures.best in
    leads_not g p (request_ends c.args.outlook.now.request.now) found.limit c.args.room.now wanted c.args.tree.now c.cheap_deviation.new.costs
    c.keeps_conditions.ensures.fits found.found tied.tree c.cheap_deviation.ensures.costs (cost g p c.args.outlook.now.request.now.path.edges)
    _ _ _ c.requires.fits tied.tied best.0.0 (λ k i other deviates. best.0.1 k i other deviates.within deviates) best.1 found.above
