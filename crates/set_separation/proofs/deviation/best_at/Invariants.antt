use Rattle.std.proofs.Common.{drop}
use Rattle.area_graph.specs.Area.{edges_out}
use Rattle.design_problem.specs.Problems.{request_ends}
use Rattle.rival_separation.specs.Deviations.{IsBestDeviation}
use Rattle.rival_separation.proofs.DeviationLemmas.{SeenBut}
use Rattle.set_separation.specs.Deviations.{DeviatesFromTree, place_vertex}
use Rattle.set_separation.proofs.deviation.best_at.Given as goal

abbrev pub invariant-loop-number : goal.invariant-loop-number
invariant-loop-number l =
    IsBestDeviation (DeviatesFromTree l.outlook.graph.now l.outlook.point.now (request_ends l.outlook.request.now) l.room l.costed.tree.now l.costed.costs.now)
    (SeenBut l.place (drop l.number-index
    (edges_out l.outlook.graph.now (place_vertex l.outlook.graph.now (request_ends l.outlook.request.now) l.costed.tree.now l.place)))) l.found
