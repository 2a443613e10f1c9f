use Rattle.std.proofs.Common.{ℕ, ◌*◌, ◌≤◌, ◌-◌, ◌+◌, ◌<◌, arith, ap, ◌∙◌, subst, refl, w64}
use Rattle.std.specs.Prelude.{nat_abs}
use Rattle.std.proofs.lemmas.Int.{ints, to_z-of_z}
use Rattle.bound_propagation.proofs.Ranges.{low_bound, high_bound, no_bound}
use Rattle.bound_propagation.proofs.range.exact_bound.Goals as goal

pub returns-in_err-steps-clause-none : goal.returns-in_err-steps-clause-none
returns-in_err-steps-clause-none c =
    let weight = c.unsigned_abs.ensures.value ∙ ap nat_abs (to_z-of_z w64 c.args.coefficient c.ranges.coefficient) in
    λ _. no_bound c.args.coefficient c.args.slack c.args.low c.args.high
    (subst (λ (w : ℕ). w * (c.args.high - c.args.low) ≤ c.args.slack) weight (c.in_err-steps.ensures.none refl))

pub returns-then-coefficient-gt0-clause-exact : goal.returns-then-coefficient-gt0-clause-exact
returns-then-coefficient-gt0-clause-exact c =
    let weight = c.unsigned_abs.ensures.value ∙ ap nat_abs (to_z-of_z w64 c.args.coefficient c.ranges.coefficient) in
    low_bound c.args.coefficient c.args.slack c.args.low c.args.high c.in_ok-steps.steps (omega (arith, ints))
    c.in_ok-steps.ensures.within
    (subst (λ (w : ℕ). w * c.in_ok-steps.steps ≤ c.args.slack) weight c.in_ok-steps.ensures.allowed)
    (subst (λ (w : ℕ). c.args.slack < w * (c.in_ok-steps.steps + 1)) weight c.in_ok-steps.ensures.most)

pub returns-else-coefficient-gt0-clause-exact : goal.returns-else-coefficient-gt0-clause-exact
returns-else-coefficient-gt0-clause-exact c =
    let weight = c.unsigned_abs.ensures.value ∙ ap nat_abs (to_z-of_z w64 c.args.coefficient c.ranges.coefficient) in
    high_bound c.args.coefficient c.args.slack c.args.low c.args.high c.in_ok-steps.steps (omega (arith, ints))
    c.in_ok-steps.ensures.within
    (subst (λ (w : ℕ). w * c.in_ok-steps.steps ≤ c.args.slack) weight c.in_ok-steps.ensures.allowed)
    (subst (λ (w : ℕ). c.args.slack < w * (c.in_ok-steps.steps + 1)) weight c.in_ok-steps.ensures.most)
