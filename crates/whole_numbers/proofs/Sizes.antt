-- The sizes of sums and negations, of products with a number and their factors, and of positive numbers.
use Rattle.std.proofs.Common.{◌≡◌, ℕ, zero, suc, ◌+◌, ◌*◌, ◌<◌, ◌≤◌, refl, arith}
use Rattle.std.specs.Prelude.{ℤ, pos, negsuc, ◌+ℤ◌, ◌*ℤ◌, ◌<ℤ◌, ◌≤ℤ◌, neg_ℤ, nat_abs}
use Rattle.std.proofs.Math.Nat.{mul-le-mul_left}
use Rattle.std.proofs.lemmas.Int.{ints, unsigned_abs-mul}

-- the size of a sum is at most the sum of the sizes
pub sum_size : (a b : ℤ) → nat_abs (a +ℤ b) ≤ nat_abs a + nat_abs b
sum_size a b = omega (arith, ints)

-- the size of a number times another one is the product
pub scaled_size : (m : ℕ) (c : ℤ) → nat_abs (pos m *ℤ c) ≡ m * nat_abs c
scaled_size m c = unsigned_abs-mul (pos m) c

pub product_size : (c : ℤ) (m : ℕ) → nat_abs (c *ℤ pos m) ≡ nat_abs c * m
product_size c m = unsigned_abs-mul c (pos m)

-- a negation keeps the size
pub negated_size : (z : ℤ) → nat_abs (neg_ℤ z) ≡ nat_abs z
negated_size (pos zero) = refl
negated_size (pos (suc n)) = refl
negated_size (negsuc n) = refl

-- a positive number is its size
pub positive_is : (z : ℤ) → pos 0 <ℤ z → z ≡ pos (nat_abs z)
positive_is z positive = omega (arith, ints, positive)

pub size_positive : (z : ℤ) → pos 0 <ℤ z → 0 < nat_abs z
size_positive (pos n) high = omega (arith, ints)
size_positive (negsuc n) high = absurd (omega (arith, ints))

-- a product with a positive number bounds the other factor
pub factor_most : (a b : ℤ) (most : ℕ) → pos 1 ≤ℤ a → nat_abs b * nat_abs a ≤ most → nat_abs b ≤ most
factor_most a b most some product = omega (arith, product, mul-le-mul_left (nat_abs b) (let e : 1 ≤ nat_abs a = omega (arith, ints, some) in e))
