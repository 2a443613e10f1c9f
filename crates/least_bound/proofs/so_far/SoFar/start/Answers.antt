-- At the greatest bound nothing is known but the lower bounds.
use Rattle.std.proofs.Common.{◌≡◌, ◌∙◌, ℕ, ap}
use Rattle.std.specs.Prelude.{None}
use Rattle.design_problem.specs.Problems.{DesignProblem}
use Rattle.design_problem.specs.Rows.{greatest_cost}
use Rattle.least_bound.proofs.CapLaws.{so_far_starts}
use Rattle.least_bound.specs.Caps.{caps_of}
use Rattle.least_bound.proofs.so_far.SoFar.start.Goals as goal

pub returns-clause-holds : goal.returns-clause-holds
returns-clause-holds c = λ top nodes pool holds.
    let p = c.args.problem.now in
    let low_is : c.as_slice.result.now ≡ p.low = c.as_slice.ensures ∙ ap (λ (q : DesignProblem). q.low) c.problem.view_is in
    so_far_starts p top nodes pool c.greatest_of-lowest_cap.result c.args.most c.args.best (c.greatest_of-lowest_cap.ensures ∙ ap greatest_cost low_is)
    c.requires holds

pub returns-clause-caps : goal.returns-clause-caps
returns-clause-caps c =
    let p = c.args.problem.now in
    let low_is : c.as_slice.result.now ≡ p.low = c.as_slice.ensures ∙ ap (λ (q : DesignProblem). q.low) c.problem.view_is in
    ap (λ (k : ℕ). caps_of (record { lowest_cap = k; least = k; most = c.args.most; kept = None; best = c.args.best }))
    (c.greatest_of-lowest_cap.ensures ∙ ap greatest_cost low_is)
