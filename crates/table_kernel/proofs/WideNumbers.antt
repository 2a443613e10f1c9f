-- Whole numbers that 128 bits hold: products, and sums over the terms of a form.
use Rattle.std.proofs.Common.{◌≡◌, ℕ, ◌+◌, ◌^◌, ◌<◌, ◌≤◌, sym, subst, ◌∙◌, ap, List, length, get_or, arith, FitsSigned, to_z, of_z}
use Rattle.std.specs.Prelude.{ℤ, pos, ◌+ℤ◌, ◌-ℤ◌, ◌*ℤ◌, neg_ℤ, nat_abs}
use Rattle.std.specs.Int.{w128}
use Rattle.std.proofs.lemmas.Int.{fits_signed_from_abs, ints}
use Rattle.whole_numbers.proofs.Ring.{var, num, neg, ◌⊖◌, ring}
use Rattle.std.proofs.Common.{[], ◌∷◌, refl}
use Rattle.whole_numbers.specs.Lists.{number_at}
use Rattle.design_problem.specs.declared.form.Term.{Term}
use Rattle.fraction_table.proofs.MultiplierSteps.{read_back}
use Rattle.integer_pivots.proofs.Sizes.{product_small}
use Rattle.table_kernel.proofs.LineSums.{IsPartSum, summed_more}

-- what is read of 128 bits into which the number is put
abbrev pub read_of : ℤ → ℤ
read_of z = to_z w128 (of_z w128 z)

-- a product of two numbers
module _ (x y a b : ℤ) (x_is : x ≡ a) (y_is : y ≡ b) (a_small : nat_abs a ≤ 2 ^ 60) (b_small : nat_abs b ≤ 2 ^ 60) where
  factors_are : (read_of x *ℤ read_of y) ≡ (a *ℤ b)
  factors_are =
      ap (λ (z : ℤ). z *ℤ read_of y) (ap read_of x_is ∙ read_back a (omega (arith, a_small)))
      ∙ ap (λ (z : ℤ). a *ℤ z) (ap read_of y_is ∙ read_back b (omega (arith, b_small)))

  size : nat_abs (a *ℤ b) < 2 ^ 127
  size = omega (arith, product_small (2 ^ 60) (2 ^ 60) a b a_small b_small)

  pub wide_product_fits : FitsSigned w128 (read_of x *ℤ read_of y)
  wide_product_fits = subst (FitsSigned w128) (sym factors_are) (fits_signed_from_abs w128 (a *ℤ b) size)

  pub wide_product_is : read_of (read_of x *ℤ read_of y) ≡ (a *ℤ b)
  wide_product_is = ap read_of factors_are ∙ read_back (a *ℤ b) size

-- a negated number
module _ (x : ℤ) (small : nat_abs x ≤ 2 ^ 60) where
  opposite : (pos 0 -ℤ read_of x) ≡ neg_ℤ x
  opposite =
      ap (λ (z : ℤ). pos 0 -ℤ z) (read_back x (omega (arith, small)))
      ∙ ring (x ∷ []) (num (pos 0) ⊖ var 0) (neg (var 0)) refl

  opposite_small : nat_abs (neg_ℤ x) < 2 ^ 127
  opposite_small = omega (arith, ints, small)

  pub wide_negated_fits : FitsSigned w128 (pos 0 -ℤ read_of x)
  wide_negated_fits = subst (FitsSigned w128) (sym opposite) (fits_signed_from_abs w128 (neg_ℤ x) opposite_small)

  pub wide_negated_is : read_of (pos 0 -ℤ read_of x) ≡ neg_ℤ x
  wide_negated_is = ap read_of opposite ∙ read_back (neg_ℤ x) opposite_small

-- a sum over the terms of a form, one term further
pub wide_step : (zs : List ℤ) (ts : List Term) (index : ℕ) (d : Term) (sum part : ℤ) → index < length ts →
    nat_abs (number_at zs (get_or ts index d).var) ≤ 2 ^ 60 →
    part ≡ ((get_or ts index d).coefficient *ℤ number_at zs (get_or ts index d).var) →
    nat_abs (get_or ts index d).coefficient ≤ 2 ^ 16 → IsPartSum (2 ^ 60) (2 ^ 76) zs ts index sum →
    FitsSigned w128 (sum +ℤ read_of part) × IsPartSum (2 ^ 60) (2 ^ 76) zs ts (index + 1) (read_of (sum +ℤ read_of part))
wide_step zs ts index d sum part index_in small part_is light s =
    let c = (get_or ts index d).coefficient in
    let z = number_at zs (get_or ts index d).var in
    let size = product_small (2 ^ 16) (2 ^ 60) c z light small in
    let read_part : read_of part ≡ (c *ℤ z) = ap read_of part_is ∙ read_back (c *ℤ z) (omega (arith, size)) in
    let more = summed_more (2 ^ 60) (2 ^ 76) zs ts index d sum index_in small s in
    let whole : (sum +ℤ read_of part) ≡ (sum +ℤ (c *ℤ z)) = ap (λ (x : ℤ). sum +ℤ x) read_part in
    let within : nat_abs (sum +ℤ (c *ℤ z)) < 2 ^ 127 = omega (arith, more.size) in (
      subst (FitsSigned w128) (sym whole) (fits_signed_from_abs w128 (sum +ℤ (c *ℤ z)) within),
      subst (IsPartSum (2 ^ 60) (2 ^ 76) zs ts (index + 1)) (sym (ap read_of whole ∙ read_back (sum +ℤ (c *ℤ z)) within)) more,
    )
