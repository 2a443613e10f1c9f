use Rattle.std.proofs.Common.{drop, get_or}
use Rattle.area_graph.specs.Area.{edge_at, edges_out}
use Rattle.rival_separation.specs.Outlooks.{IsBestDeviationFromPath}
use Rattle.rival_separation.proofs.DeviationLemmas.{SeenBut}
use Rattle.rival_separation.proofs.deviation.best_at.Given as goal

abbrev pub invariant-loop-number : goal.invariant-loop-number
invariant-loop-number l = IsBestDeviationFromPath l.outlook l.room
    (SeenBut l.place (drop l.number-index
    (edges_out l.outlook.graph.now (edge_at l.outlook.graph.now (get_or l.outlook.request.now.path.edges l.place 0)).from))) l.found
