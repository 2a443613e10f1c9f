use Rattle.std.proofs.Common.{◌≡◌, ◌-◌, ◌/◌, ◌≤◌, ℕ, sym, ◌∙◌, ap, subst, arith, rules, SFits}
use Rattle.std.specs.Prelude.{ℤ, pos, negsuc, nat_abs, ◌-ℤ◌, ◌<ℤ◌}
use Rattle.std.proofs.lemmas.Int.{ints, to_z-of_z}
use native.Mathlib.Nat.{div-le_self}
use mir.Syntax.{w128}
use mir.Val.{to_z, of_z}
use Rattle.whole_numbers.specs.Fractions.{Fraction, IsFloor}
use Rattle.whole_numbers.proofs.Orders.{floor_negative}
use Rattle.wide_fraction.proofs.order.floor.Goals as goal

pub returns-then-value-lt0 : goal.returns-then-value-lt0
returns-then-value-lt0 c =
    let n = c.value.inside.numerator in
    let d = c.value.inside.denominator in
    let fits : SFits w128 c.value.inside.numerator = search rules in
    let negative : n <ℤ pos 0 = omega (arith, ints) in
    let size : c.unsigned_abs.result ≡ nat_abs n = c.unsigned_abs.ensures.value ∙ ap nat_abs (to_z-of_z w128 n fits) in
    let whole_is : c.quotient.result ≡ (nat_abs n - 1) / d = c.quotient.ensures ∙ ap (λ (k : ℕ). (k - 1) / d) size in
    let small : (nat_abs n - 1) / d ≤ nat_abs n - 1 = div-le_self (nat_abs n - 1) d in
    let seen : to_z w128 (of_z w128 (negsuc 0 -ℤ to_z w128 c.quotient.result)) ≡ negsuc c.quotient.result =
    omega (arith, ints, whole_is, small, c.value.invariant.numerator) in
    subst (λ (q : Fraction). IsFloor q (to_z w128 (of_z w128 (negsuc 0 -ℤ to_z w128 c.quotient.result)))) c.value.view_is
    (subst (λ (z : ℤ). IsFloor (record { numerator = n; denominator = d }) z) (sym (seen ∙ ap negsuc whole_is))
    (floor_negative n d c.value.invariant.lowest.positive negative))
