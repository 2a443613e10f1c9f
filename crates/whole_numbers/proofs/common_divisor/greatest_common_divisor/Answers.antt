use Rattle.std.proofs.Common.{◌<◌, ℕ, subst, sym, ◌∙◌, ap, inl, inr}
use Rattle.whole_numbers.specs.Fractions.{gcd}
use Rattle.whole_numbers.proofs.Divisors.{gcd-one, one-gcd, gcd_positive}
use Rattle.whole_numbers.proofs.common_divisor.greatest_common_divisor.Goals as goal

pub returns-then-right-eq1-clause-value : goal.returns-then-right-eq1-clause-value
returns-then-right-eq1-clause-value c =
    elim c.if-right-eq1.either [
      | inl left_one ↦ sym (ap (λ n. gcd n c.args.right) left_one ∙ one-gcd c.args.right)
      | inr right_one ↦ sym (ap (gcd c.args.left) right_one.1 ∙ gcd-one c.args.left)
    ]

pub returns-else-right-eq1-clause-positive : goal.returns-else-right-eq1-clause-positive
returns-else-right-eq1-clause-positive c right_positive =
    subst (λ (n : ℕ). 0 < n) (sym c.gcd_by_steps.ensures) (gcd_positive c.args.left c.args.right right_positive)
