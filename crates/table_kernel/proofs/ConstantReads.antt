-- The constant of a line over the common denominator, as code reads it.
use Rattle.std.proofs.Common.{◌≡◌, ◌*◌, ◌/◌, ◌^◌, ◌≤◌, sym, ◌∙◌, ap, subst, arith, FitsSigned, w64}
use Prim.Native.Nat.{◌∣◌}
use Rattle.std.specs.Prelude.{ℤ, pos, ◌*ℤ◌, ◌<ℤ◌, ◌≤ℤ◌, nat_abs}
use Rattle.std.specs.Int.Signed.{quot_z}
use Rattle.std.proofs.lemmas.Int.{fits_signed_from_abs, ints, unsigned_abs-mul}
use Rattle.integer_pivots.proofs.ShareLaws.{share_positive, share_read}
use Rattle.integer_pivots.proofs.Sizes.{read, read_number}
use Rattle.table_kernel.proofs.Shares.{factor_within}

module _ (z common d : ℤ) (range : (pos 0 <ℤ common) × (common ≤ℤ pos (2 ^ 30))) (positive : pos 0 <ℤ d) (divides : nat_abs d ∣ nat_abs common)
    (limit : nat_abs z * (nat_abs common / nat_abs d) ≤ 2 ^ 44) where
  factors_are : (read z *ℤ read (quot_z (read common) (read d))) ≡ (z *ℤ pos (nat_abs common / nat_abs d))
  factors_are =
      let some = share_positive common d range.0 divides in
      let small = factor_within (nat_abs z) (nat_abs common / nat_abs d) (2 ^ 44) (omega (arith, ints, some)) limit in
      ap (λ (y : ℤ). y *ℤ read (quot_z (read common) (read d))) (read_number z (omega (arith, small)))
      ∙ ap (λ (y : ℤ). z *ℤ y) (share_read common d range.0 range.1 positive divides)

  size : nat_abs (z *ℤ pos (nat_abs common / nat_abs d)) ≤ 2 ^ 44
  size = omega (arith, unsigned_abs-mul z (pos (nat_abs common / nat_abs d)), limit)

  pub constant_fits : FitsSigned w64 (read z *ℤ read (quot_z (read common) (read d)))
  constant_fits = subst (FitsSigned w64) (sym factors_are) (fits_signed_from_abs w64 (z *ℤ pos (nat_abs common / nat_abs d)) (omega (arith, size)))

  pub constant_read : read (read z *ℤ read (quot_z (read common) (read d))) ≡ (z *ℤ pos (nat_abs common / nat_abs d))
  constant_read = ap read factors_are ∙ read_number (z *ℤ pos (nat_abs common / nat_abs d)) (omega (arith, size))

  pub constant_size : nat_abs (read (read z *ℤ read (quot_z (read common) (read d)))) ≤ 2 ^ 44
  constant_size = subst (λ (y : ℤ). nat_abs y ≤ 2 ^ 44) (sym constant_read) size
