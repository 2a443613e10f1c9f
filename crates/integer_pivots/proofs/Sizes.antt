-- Whole numbers that 64 bits hold, and the greatest size among some.
use Rattle.std.proofs.Common.{◌≡◌, ℕ, ◌+◌, ◌^◌, ◌<◌, ◌≤◌, ◌↔◌, sym, ◌∙◌, ap, List, arith, get_or, take, w64, to_z, of_z, zero, suc, ◌*◌, [], ◌∷◌, length}
use Rattle.std.specs.Prelude.{ℤ, pos, nat_abs, IsTrue, leb, negsuc, ◌+ℤ◌, ◌-ℤ◌, ◌*ℤ◌, ◌<ℤ◌, ◌≤ℤ◌}
use Rattle.std.specs.Int.Signed.{le_z, mag}
use Rattle.std.proofs.lemmas.Bool.{le-leb, leb-true}
use Rattle.std.proofs.lemmas.Int.{fits_signed_from_abs, to_z-of_z, ints, unsigned_abs-mul}
use Rattle.std.proofs.lemmas.List.Elements.{All-more, All-weaker, All-tail}
use Rattle.std.proofs.Math.Nat.{mul-le-mul, mul-le-mul_left}
use Rattle.whole_numbers.specs.Lists.{number_at}
use Rattle.integer_pivots.specs.Numbers.{AllWithin}

-- what is read of 64 bits into which the number is put
abbrev pub read : ℤ → ℤ
read z = to_z w64 (of_z w64 z)

-- a number that 64 bits hold is read as it is
pub read_number : (z : ℤ) → nat_abs z < 2 ^ 63 → to_z w64 (of_z w64 z) ≡ z
read_number z small = to_z-of_z w64 z (fits_signed_from_abs w64 z small)

pub wider : (m n : ℕ) (zs : List ℤ) → m ≤ n → AllWithin m zs → AllWithin n zs
wider m n zs wide within = All-weaker (λ (z : ℤ). nat_abs z ≤ m) (λ (z : ℤ). nat_abs z ≤ n) (λ z small. omega (arith, wide, small)) zs within

-- one more number is within
pub more_within : (m n : ℕ) (zs : List ℤ) (i : ℕ) → i < length zs → m ≤ n → nat_abs (get_or zs i (pos 0)) ≤ n →
    AllWithin m (take i zs) → AllWithin n (take (i + 1) zs)
more_within m n zs i i_in wide here within = All-more (λ (z : ℤ). nat_abs z ≤ n) zs i (pos 0) i_in (wider m n (take i zs) wide within) here

-- a test of natural numbers
pub test_natural : (a b : ℤ) (m n : ℕ) → a ≡ pos m → b ≡ pos n → IsTrue (le_z a b) ↔ (m ≤ n)
test_natural a b m n a_is b_is =
    let same : le_z a b ≡ leb m n = ap (λ z. le_z z b) a_is ∙ ap (λ z. le_z (pos m) z) b_is in
    (λ holds. leb-true m n (sym same ∙ holds), λ less. same ∙ le-leb m n less)

pub read_known : (z : ℤ) → mag z < 2 ^ 63 → read z ≡ z
read_known z small = to_z-of_z w64 z (record { sfits = small })

-- the size of a product is at most that of its first factor times a bound of the second's
pub product_size : (c z : ℤ) (most : ℕ) → nat_abs z ≤ most → nat_abs (c *ℤ z) ≤ nat_abs c * most
product_size c z most small = omega (arith, unsigned_abs-mul c z, mul-le-mul_left (nat_abs c) small)

-- bounds of two factors' sizes bound the product's by their product
pub product_small : (m n : ℕ) (a b : ℤ) → nat_abs a ≤ m → nat_abs b ≤ n → nat_abs (a *ℤ b) ≤ m * n
product_small m n a b a_small b_small = omega (arith, unsigned_abs-mul a b, mul-le-mul a_small b_small)

-- bounds of two numbers' sizes bound that of their sum by theirs
pub sum_small : (m n : ℕ) (x y : ℤ) → nat_abs x ≤ m → nat_abs y ≤ n → nat_abs (x +ℤ y) ≤ m + n
sum_small m n x y x_small y_small = omega (arith, ints, x_small, y_small)

-- and so that of their difference
pub difference_small : (m n : ℕ) (x y : ℤ) → nat_abs x ≤ m → nat_abs y ≤ n → nat_abs (x -ℤ y) ≤ m + n
difference_small m n x y x_small y_small = omega (arith, ints, x_small, y_small)

-- the product of two numbers of at most 2^30 in size
pub product_read : (a b : ℤ) → nat_abs a ≤ 2 ^ 30 → nat_abs b ≤ 2 ^ 30 → read (read a *ℤ read b) ≡ (a *ℤ b)
product_read a b a_small b_small =
    ap (λ x. read (x *ℤ read b)) (read_number a (omega (arith, a_small)))
    ∙ ap (λ y. read (a *ℤ y)) (read_number b (omega (arith, b_small)))
    ∙ read_number (a *ℤ b) (omega (arith, product_small (2 ^ 30) (2 ^ 30) a b a_small b_small))

-- a number of at most 2^30 in size is so as it is read
pub small_read : (z : ℤ) → nat_abs z ≤ 2 ^ 30 → nat_abs (read z) ≤ 2 ^ 30
small_read z small = omega (arith, small, ap nat_abs (read_number z (omega (arith, small))))

pub size_of : (z : ℤ) (n : ℕ) → (pos 0 ≤ℤ z) × (z ≤ℤ pos n) → nat_abs z ≤ n
size_of z n within = omega (arith, ints, within.0, within.1)

pub positive_size : (z : ℤ) (n : ℕ) → (pos 0 <ℤ z) × (z ≤ℤ pos n) → nat_abs z ≤ n
positive_size z n within = omega (arith, ints, within.0, within.1)

pub size_most : (z : ℤ) (n : ℕ) → pos 0 <ℤ z → z ≤ℤ pos n → nat_abs z ≤ n
size_most (pos m) n high low = omega (arith, ints)
size_most (negsuc m) n high low = absurd (omega (arith, ints))

pub number_within : (most : ℕ) (zs : List ℤ) (c : ℕ) → AllWithin most zs → nat_abs (number_at zs c) ≤ most
number_within most [] c within = omega arith
number_within most (z ∷ zs) zero within = within 0 (pos 0) (omega arith)
number_within most (z ∷ zs) (suc c) within = number_within most zs c (All-tail (λ (y : ℤ). nat_abs y ≤ most) z zs within)
