-- 1, and what goes into the number, is the answer itself; what is computed of the sizes else is no greater than the
-- second one.
use Rattle.std.proofs.Common.{◌≡◌, ◌^◌, ◌<◌, sym, ◌∙◌, ap, subst, arith, w64, to_z, of_z}
use Prim.Native.Nat.{◌∣◌}
use Rattle.std.specs.Prelude.{ℤ, pos, ◌<ℤ◌, ◌≤ℤ◌, nat_abs}
use Rattle.std.proofs.lemmas.Int.{fits_signed_from_abs, to_z_pos, to_z-of_z}
use mathlib.Core.Path.{ap₂}
use Rattle.whole_numbers.specs.Fractions.{gcd}
use Rattle.integer_pivots.proofs.Quotients.{bits_of, common_all, common_fits, common_most, common_one, common_positive}
use Rattle.integer_pivots.proofs.line.common_with.Goals as goal
use Rattle.integer_pivots.proofs.line.common_with.Goals.{then-part-eq1-via-then-part-eq1, then-part-eq1-via-else-part-eq1+then-goes_into, After-greatest_common_divisor}

pub returns-then-part-eq1-clause-value : goal.returns-then-part-eq1-clause-value
returns-then-part-eq1-clause-value c =
    to_z-of_z w64 c.args.part c.ranges.part
    ∙ elim c.then-part-eq1.branch [
      | then-part-eq1-via-then-part-eq1 w ↦ common_one c.args.number c.args.part (bits_of c.args.part 1 c.ranges.part w.if-part-eq1.true)
      | then-part-eq1-via-else-part-eq1+then-goes_into w ↦
          common_all c.args.number c.args.part c.requires.part
          (subst (λ (number : ℤ). nat_abs c.args.part ∣ nat_abs number) (to_z-of_z w64 c.args.number c.ranges.number)
          (subst (λ (part : ℤ). nat_abs part ∣ nat_abs (to_z w64 (of_z w64 c.args.number))) (to_z-of_z w64 c.args.part c.ranges.part)
          (w.goes_into.ensures.0 w.if-goes_into.true)))
    ]

value : (c : After-greatest_common_divisor) → c.greatest_common_divisor.result ≡ gcd (nat_abs c.args.number) (nat_abs c.args.part)
value c =
    c.greatest_common_divisor.ensures.value
    ∙ ap₂ gcd
    (c.from.ensures ∙ c.unsigned_abs.ensures.value ∙ ap nat_abs (to_z-of_z w64 c.args.number c.ranges.number))
    (c.from-2.ensures ∙ c.unsigned_abs-2.ensures.value ∙ ap nat_abs (to_z-of_z w64 c.args.part c.ranges.part))

small : (c : After-greatest_common_divisor) → c.greatest_common_divisor.result < 2 ^ 63
small c = common_fits c.args.number c.args.part c.greatest_common_divisor.result c.requires.part c.ranges.part.sfits (value c)

result_is : (c : After-greatest_common_divisor) → to_z w64 c.greatest_common_divisor.result ≡ pos (gcd (nat_abs c.args.number) (nat_abs c.args.part))
result_is c = to_z_pos w64 c.greatest_common_divisor.result (let e = small c in omega (arith, e)) ∙ ap pos (value c)

pub overflow_cast-result : goal.overflow_cast-result
overflow_cast-result c =
    let e = small (goal.at.overflow_cast-result c).After-greatest_common_divisor in
    fits_signed_from_abs w64 (pos c.greatest_common_divisor.result) (omega (arith, e))

pub returns-clause-value : goal.returns-clause-value
returns-clause-value c = result_is (goal.at.returns-clause-value c).After-greatest_common_divisor

pub returns-clause-positive : goal.returns-clause-positive
returns-clause-positive c =
    subst (λ (z : ℤ). pos 0 <ℤ z) (sym (result_is (goal.at.returns-clause-positive c).After-greatest_common_divisor))
    (common_positive c.args.number c.args.part c.requires.part)

pub returns-clause-least : goal.returns-clause-least
returns-clause-least c =
    subst (λ (z : ℤ). z ≤ℤ c.args.part) (sym (result_is (goal.at.returns-clause-least c).After-greatest_common_divisor))
    (common_most c.args.number c.args.part c.requires.part)
