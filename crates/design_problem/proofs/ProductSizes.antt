-- What fits 128 bits with a sign: sums with products.
use Rattle.std.proofs.Common.{◌≡◌, ℕ, ◌+◌, ◌*◌, ◌^◌, ◌<◌, ◌∙◌, ap, arith, SFits, w64, to_z, of_z}
use Rattle.std.specs.Int.{w128}
use Rattle.std.specs.Prelude.{ℤ, pos, negsuc, ◌+ℤ◌, ◌*ℤ◌, nat_abs}
use Rattle.std.proofs.Math.Facts.{sfits_widen}
use Rattle.std.proofs.lemmas.Int.{ints, to_z_pos, to_z-of_z}
use Rattle.whole_numbers.proofs.Sizes.{scaled_size, sum_size}

pub fits_size : (z : ℤ) → nat_abs z < 2 ^ 127 → SFits w128 z
fits_size (pos n) size = omega (arith, ints)
fits_size (negsuc n) size = omega (arith, ints)

-- a product that fits, as it is computed
pub product_is : (m : ℕ) (f r : ℤ) → m < 2 ^ 100 → SFits w64 f → r ≡ to_z w64 (of_z w64 f) → (to_z w128 m *ℤ to_z w128 (of_z w128 r)) ≡ (pos m *ℤ f)
product_is m f r small fits e =
    ap (λ (z : ℤ). z *ℤ to_z w128 (of_z w128 r)) (to_z_pos w128 m (omega arith))
    ∙ ap (λ (z : ℤ). pos m *ℤ to_z w128 (of_z w128 z)) (e ∙ to_z-of_z w64 f fits)
    ∙ ap (λ (z : ℤ). pos m *ℤ z) (to_z-of_z w128 f (sfits_widen tt fits))

pub product_fits : (a m : ℕ) (f : ℤ) → a + m * nat_abs f < 2 ^ 127 → SFits w128 (pos m *ℤ f)
product_fits a m f size = fits_size (pos m *ℤ f) (omega (arith, scaled_size m f))

-- and its sum with a number
pub sum_is : (a p q : ℤ) → SFits w128 a → p ≡ q → SFits w128 q → (to_z w128 (of_z w128 a) +ℤ to_z w128 (of_z w128 p)) ≡ (a +ℤ q)
sum_is a p q first e second =
    ap (λ (z : ℤ). z +ℤ to_z w128 (of_z w128 p)) (to_z-of_z w128 a first)
    ∙ ap (λ (z : ℤ). a +ℤ to_z w128 (of_z w128 z)) e
    ∙ ap (λ (z : ℤ). a +ℤ z) (to_z-of_z w128 q second)

pub sum_fits : (a : ℤ) (m : ℕ) (f : ℤ) → nat_abs a + m * nat_abs f < 2 ^ 127 → SFits w128 (a +ℤ (pos m *ℤ f))
sum_fits a m f size = fits_size (a +ℤ (pos m *ℤ f)) (omega (arith, sum_size a (pos m *ℤ f), scaled_size m f))
