use Rattle.std.proofs.Common.{ℕ, ◌+◌, ◌≤◌, List, arith}
use Rattle.area_graph.specs.Costs.{cost}
use Rattle.design_problem.specs.Problems.{request_ends}
use Rattle.set_separation.specs.Deviations.{DeviatesFromTree, IsTiedTree}
use Rattle.set_separation.specs.Outsiders.{CostAtLeast}
use Rattle.set_separation.proofs.DeviationLemmas.{outsiders_above}
use Rattle.set_separation.proofs.outsider.cheap_deviation.Goals.{After-put_place_costs}
use Rattle.set_separation.proofs.outsider.cheap_deviation.Goals as goal

-- where each deviation costs at least so much as the members and the scale, each outsider does
all_above : (c : After-put_place_costs) (wanted : List (List ℕ)) →
    IsTiedTree c.args.outlook.now.graph.now c.args.outlook.now.point.now (request_ends c.args.outlook.now.request.now)
    (cost c.args.outlook.now.graph.now c.args.outlook.now.point.now c.args.outlook.now.request.now.path.edges) wanted c.args.tree.now →
    ((place e total : ℕ) →
    DeviatesFromTree c.args.outlook.now.graph.now c.args.outlook.now.point.now (request_ends c.args.outlook.now.request.now) c.args.room.now c.args.tree.now
    c.put_place_costs.new.costs place e total → cost c.args.outlook.now.graph.now c.args.outlook.now.point.now c.args.outlook.now.request.now.path.edges +
    c.args.outlook.now.point.now.scale ≤ total) →
    CostAtLeast c.args.outlook.now.graph.now c.args.outlook.now.point.now (request_ends c.args.outlook.now.request.now) wanted
    (cost c.args.outlook.now.graph.now c.args.outlook.now.point.now c.args.outlook.now.request.now.path.edges + c.args.outlook.now.point.now.scale)
all_above c wanted tied above =
    let g = c.args.outlook.now.graph.now in
    let p = c.args.outlook.now.point.now in
    let found = c.requires.found in
    outsiders_above g p (request_ends c.args.outlook.now.request.now) found.limit c.args.room.now wanted
    c.args.tree.now c.put_place_costs.new.costs c.keeps_conditions.ensures.fits found.found tied.tree c.put_place_costs.ensures.costs
    (cost g p c.args.outlook.now.request.now.path.edges + p.scale) found.above above

pub least_deviation-requires-clause-found : goal.least_deviation-requires-clause-found
least_deviation-requires-clause-found c = (c.requires.found.limit, c.requires.found.found)

pub returns-in-None-clause-best : goal.returns-in-None-clause-best
returns-in-None-clause-best c = λ wanted tied.
    all_above (goal.at.returns-in-None-clause-best c).After-put_place_costs wanted tied
    (λ place e total deviates. absurd (c.in-None.ensures place e total deviates.within deviates))

pub returns-then-least_lead-best-clause-best : goal.returns-then-least_lead-best-clause-best
returns-then-least_lead-best-clause-best c = λ wanted tied.
    all_above (goal.at.returns-then-least_lead-best-clause-best c).After-put_place_costs wanted tied
    (λ place e total deviates. let least = c.in-Some.ensures.1 place e total deviates.within deviates in let more =
    c.if-least_lead-best.true in let value = c.least_lead.ensures in omega arith)
