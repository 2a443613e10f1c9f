use Rattle.std.proofs.Common.{◌≡◌, ◌<◌, take}
use Rattle.area_graph.specs.Costs.{cost}
use Rattle.rival_separation.specs.Outlooks.{IsBestDeviationFromPath}
use Rattle.rival_separation.proofs.deviation.least_deviation.Given as goal

abbrev pub invariant-loop-place : goal.invariant-loop-place
invariant-loop-place l = record {
  before : l.before ≡ cost l.outlook.graph.now l.outlook.point.now (take l.place l.outlook.request.now.path.edges);
  best : IsBestDeviationFromPath l.outlook l.room (λ earlier e. earlier < l.place) l.best;
}
