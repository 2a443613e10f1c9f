use Rattle.std.proofs.Common.{◌<◌}
use Rattle.design_problem.specs.Problems.{request_ends}
use Rattle.rival_separation.specs.Deviations.{IsBestDeviation}
use Rattle.set_separation.specs.Deviations.{DeviatesFromTree}
use Rattle.set_separation.proofs.deviation.least_deviation.Given as goal

abbrev pub invariant-loop-place : goal.invariant-loop-place
invariant-loop-place l = IsBestDeviation (DeviatesFromTree l.outlook.graph.now l.outlook.point.now (request_ends l.outlook.request.now) l.room l.costed.tree.now
    l.costed.costs.now) (λ earlier e. earlier < l.place) l.best
