-- Only the lower bounds are known.
use Rattle.std.proofs.Common.{◌≡◌, ◌∙◌, ap}
use Rattle.design_problem.specs.Problems.{DesignProblem}
use Rattle.least_total.specs.Totals.{total}
use Rattle.least_total.proofs.RoundLaws.{so_far_starts}
use Rattle.least_total.proofs.so_far.SoFar.start.Goals as goal

pub returns : goal.returns
returns c = λ top nodes cap fit.
    let p = c.args.problem.now in
    let low_is : c.as_slice-2.result.now ≡ p.low = c.as_slice-2.ensures ∙ ap (λ (q : DesignProblem). q.low) c.problem.view_is in
    so_far_starts p top nodes cap c.args.costs c.total_of.result c.total_of-2.result fit (c.total_of.ensures.total
    ∙ ap total c.as_slice.ensures) c.total_of.ensures.small (c.total_of-2.ensures.total ∙ ap total low_is)
