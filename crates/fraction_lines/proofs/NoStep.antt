-- A product with 0, or a difference with 0, makes no whole number that passes the top.
use Rattle.std.proofs.Common.{◌≡◌, ℕ, zero, suc, ◌*◌, ◌/◌, ◌<◌, ◌≤◌, refl, ◌∙◌, ap, List, [], ◌∷◌, arith}
use Rattle.std.specs.Prelude.{ℤ, pos, ◌+ℤ◌, ◌*ℤ◌, nat_abs, Any}
use Rattle.std.specs.List.{AllByRecursion}
use native.Mathlib.Nat.{div-one, mul-one, mul-zero, zero-div, zero-mod}
use Rattle.std.proofs.Math.Nat.{div_self}
use Rattle.cost_base.specs.declared.StepName.TheVariants.{Mul, Sub}
use Rattle.cost_base.proofs.ListLemmas.{all_from_each}
use Rattle.whole_numbers.specs.Fractions.{Fraction, gcd, gcd_within, numbers_of_step}
use Rattle.whole_numbers.proofs.Divisors.{gcd-one}
use Rattle.whole_numbers.proofs.Ring.{var, num, ◌⊗◌, ring}
use Rattle.fraction_lines.specs.TableLines.{IsTableNumber, nothing}

none_passes : (top : ℕ) (ns : List ℕ) → AllByRecursion (λ n. n ≤ top) ns → Any (λ n. top < n) ns → ⊥
none_passes top ns most any =
    let here = all_from_each (λ (n : ℕ). n ≤ top) ns most any.0 any.1 any.2 in
    omega (arith, here, any.3, any.4)

zero-gcd : (d : ℕ) → gcd 0 d ≡ d
zero-gcd zero = refl
zero-gcd (suc d) = ap (λ r. gcd_within (suc d) (suc d) r) (zero-mod (suc d))

product_most : (top x d g h : ℕ) → g ≡ 1 → h ≡ d → 0 < d → 1 ≤ top → AllByRecursion (λ n. n ≤ top) (((x / g) * (0 / h)) ∷ ((d / h) * (1 / g)) ∷ [])
product_most top x d g h g_is h_is positive one_in =
    let first : (x / g) * (0 / h) ≡ 0 = ap (λ n. (x / g) * n) (zero-div h) ∙ mul-zero (x / g) in
    let second : (d / h) * (1 / g) ≡ 1 = ap (λ k. (d / k) * (1 / g)) h_is ∙ ap (λ k. (d / d) * (1 / k)) g_is ∙ ap (λ n. n * (1 / 1)) (div_self positive) in
    (omega (arith, first), (omega (arith, second, one_in), tt))

pub no_product : (top : ℕ) (p : Fraction) → IsTableNumber top p → Any (λ n. top < n) (numbers_of_step Mul p nothing) → ⊥
no_product top p is any =
    none_passes top (numbers_of_step Mul p nothing)
    (product_most top (nat_abs p.numerator) p.denominator (gcd (nat_abs p.numerator) 1) (gcd 0 p.denominator)
    (gcd-one (nat_abs p.numerator)) (zero-gcd p.denominator) is.lowest.positive
    (omega (arith, is.lowest.positive, is.within.denominator)))
    any

sum_most : (top d g : ℕ) (a : ℤ) → g ≡ 1 → nat_abs a ≤ top → d ≤ top →
    AllByRecursion (λ n. n ≤ top) (nat_abs (a *ℤ pos (1 / g)) ∷ nat_abs (pos 0 *ℤ pos (d / g))
    ∷ nat_abs ((a *ℤ pos (1 / g)) +ℤ (pos 0 *ℤ pos (d / g)))
    ∷ ((d / g) * (1 / gcd (nat_abs ((a *ℤ pos (1 / g)) +ℤ (pos 0 *ℤ pos (d / g)))) g)) ∷ [])
sum_most top d g a g_is a_in d_in =
    let u = a *ℤ pos (1 / g) in
    let v = pos 0 *ℤ pos (d / g) in
    let u_is : u ≡ a = ap (λ (k : ℕ). a *ℤ pos (1 / k)) g_is ∙ ring (a ∷ []) (var 0 ⊗ num (pos 1)) (var 0) refl in
    let v_is : v ≡ pos 0 = lib.IntN.zero-*ℤ (pos (d / g)) in
    let s_is : (u +ℤ v) ≡ a = ap (λ (z : ℤ). u +ℤ z) v_is ∙ ap (λ (z : ℤ). z +ℤ pos 0) u_is ∙ lib.IntN.+ℤ_idr a in
    let last_is : (d / g) * (1 / gcd (nat_abs (u +ℤ v)) g) ≡ d =
    ap (λ (k : ℕ). (d / k) * (1 / gcd (nat_abs (u +ℤ v)) k)) g_is
    ∙ ap (λ (k : ℕ). (d / 1) * (1 / k)) (gcd-one (nat_abs (u +ℤ v)))
    ∙ mul-one (d / 1) ∙ div-one d in (
      omega (arith, ap nat_abs u_is, a_in),
      (omega (arith, ap nat_abs v_is), (omega (arith, ap nat_abs s_is, a_in), (omega (arith, last_is, d_in), tt))),
    )

pub no_difference : (top : ℕ) (p : Fraction) → IsTableNumber top p → Any (λ n. top < n) (numbers_of_step Sub p nothing) → ⊥
no_difference top p is any =
    none_passes top (numbers_of_step Sub p nothing)
    (sum_most top p.denominator (gcd p.denominator 1) p.numerator (gcd-one p.denominator) is.within.numerator is.within.denominator)
    any
