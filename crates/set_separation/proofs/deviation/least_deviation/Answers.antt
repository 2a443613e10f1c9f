use Rattle.std.proofs.Common.{◌≤◌, ◌<◌, ap, arith, length}
use Rattle.design_problem.specs.Problems.{request_ends}
use Rattle.rival_separation.proofs.DeviationLemmas.{best_of_fewer}
use Rattle.set_separation.specs.Deviations.{DeviatesFromTree}
use Rattle.set_separation.proofs.deviation.least_deviation.Goals as goal

pub returns : goal.returns
returns c =
    best_of_fewer (DeviatesFromTree c.args.outlook.now.graph.now c.args.outlook.now.point.now (request_ends c.args.outlook.now.request.now) c.args.room.now
    c.args.costed.now.tree.now c.args.costed.now.costs.now) (λ k e. k < c.loop-place.place) (λ k e. k ≤ length c.args.costed.now.tree.now)
    c.loop-place.best c.loop-place.invariant
    (λ k e total seen deviates. omega (arith, c.loop-place-test.false, ap length c.steps.ensures))
