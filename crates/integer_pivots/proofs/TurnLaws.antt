-- The turn of a line, and the numbers that it makes, as 64 and 128 bits hold them.
use Rattle.std.proofs.Common.{◌≡◌, ℕ, zero, suc, ◌+◌, ◌*◌, ◌/◌, ◌^◌, ◌<◌, ◌≤◌, ◌↔◌, refl, sym, ◌∙◌, ap, subst, List, [], ◌∷◌, arith, le_trans, FitsSigned, w64, to_z, of_z}
use Rattle.std.specs.Prelude.{ℤ, pos, negsuc, ◌+ℤ◌, ◌-ℤ◌, ◌*ℤ◌, ◌<ℤ◌, ◌≤ℤ◌, nat_abs, neg_ℤ, IsTrue}
use Rattle.std.specs.Int.{w128}
use Rattle.std.specs.Int.Signed.{le_z, mag}
use Rattle.std.proofs.lemmas.Int.{fits_signed_from_abs, ints, to_z-of_z, unsigned_abs-mul}
use Rattle.std.proofs.lemmas.List.Elements.{All-tail}
use Rattle.std.proofs.Math.IntN.{pos-*ℤ-pos}
use Rattle.std.proofs.Math.Nat.{div_self, le-max_left, le-max_right, max-le, mul-le-mul, mul-le-mul_left, zero-div}
use mathlib.Core.Path.{ap₂}
use Rattle.whole_numbers.specs.Fractions.{exact_quotient, gcd, lcm}
use Rattle.whole_numbers.proofs.Divisors.{gcd-one, gcd-swap, gcd-zero, gcd_is, quotient_positive}
use Rattle.whole_numbers.proofs.Ring.{var, num, ◌⊖◌, ◌⊗◌, ring_by, using, nothing}
use Rattle.whole_numbers.proofs.Sizes.{positive_is, size_positive}
use Rattle.integer_pivots.specs.declared.turned_line.Turn.{Turn}
use Rattle.integer_pivots.specs.Numbers.{AllWithin, greatest_of}
use Rattle.integer_pivots.specs.Turns.{turn_by, turned_number}
use Rattle.integer_pivots.proofs.Quotients.{common_positive, quotient_one, quotient_size, quotient_times}
use Rattle.integer_pivots.proofs.Sizes.{difference_small, positive_size, product_read, product_small, read, read_known, read_number, size_of, small_read, test_natural}

-- the turn where the pivot is 1, and where the number is 0
pub turn_by_one : (n p : ℤ) → p ≡ pos 1 → record { multiplier = pos 1; factor = n } ≡ turn_by n p
turn_by_one n p one =
    ap₂ (λ (m f : ℤ). record { multiplier = m; factor = f }) (sym (quotient_one (pos 1))) (sym (quotient_one n))
    ∙ ap (λ (g : ℕ). record { multiplier = exact_quotient (pos 1) g; factor = exact_quotient n g }) (sym (gcd-one (nat_abs n)))
    ∙ ap (turn_by n) (sym one)

pub turn_by_none : (n p : ℤ) → pos 0 <ℤ p → n ≡ pos 0 → record { multiplier = pos 1; factor = n } ≡ turn_by n p
turn_by_none n p positive none =
    ap (λ (f : ℤ). record { multiplier = pos 1; factor = f }) (none ∙ ap pos (sym (zero-div (nat_abs p))))
    ∙ ap (λ (m : ℤ). record { multiplier = m; factor = pos (0 / nat_abs p) }) (sym (once p positive))
    ∙ ap (λ (g : ℕ). record { multiplier = exact_quotient p g; factor = exact_quotient (pos 0) g })
    (sym (gcd-swap 0 (nat_abs p) ∙ gcd-zero (nat_abs p)))
    ∙ ap (λ (z : ℤ). turn_by z p) (sym none)
  where
    once : (q : ℤ) → pos 0 <ℤ q → exact_quotient q (nat_abs q) ≡ pos 1
    once (pos k) high = ap pos (div_self (let e : 0 < k = omega (arith, ints, high) in e))
    once (negsuc k) high = absurd (omega (arith, ints, high))

level : (m f g n p : ℤ) → (m *ℤ g) ≡ p → (f *ℤ g) ≡ n → (m *ℤ n) ≡ (f *ℤ p)
level m f g n p m_is f_is =
    ring_by (m ∷ f ∷ g ∷ n ∷ p ∷ []) (var 0 ⊗ var 3) (var 1 ⊗ var 4)
    (using (var 1) (var 0 ⊗ var 2) (var 4) m_is (using (num (negsuc 0) ⊗ var 0) (var 1 ⊗ var 2) (var 3) f_is nothing)) refl

-- the multiplied number at the pivot's column is as often the pivot as the entering line is taken away
pub turn_level : (n p : ℤ) → pos 0 <ℤ p → ((turn_by n p).multiplier *ℤ n) ≡ ((turn_by n p).factor *ℤ p)
turn_level n p positive =
    let g = gcd (nat_abs n) (nat_abs p) in
    let is = gcd_is (nat_abs n) (nat_abs p) in
    let some : pos 0 <ℤ pos g = common_positive n p positive in
    level (exact_quotient p g) (exact_quotient n g) (pos g) n p (quotient_times p (pos g) some is.1) (quotient_times n (pos g) some is.0)

pub read_level : (m f g n p : ℤ) → mag m < 2 ^ 63 → mag f < 2 ^ 63 → FitsSigned w64 n → FitsSigned w64 p →
    (m *ℤ g) ≡ read p → (f *ℤ g) ≡ read n → (read m *ℤ n) ≡ (read f *ℤ p)
read_level m f g n p m_fits f_fits n_fits p_fits m_is f_is =
    ap (λ (z : ℤ). z *ℤ n) (read_known m m_fits)
    ∙ level m f g n p (m_is ∙ to_z-of_z w64 p p_fits) (f_is ∙ to_z-of_z w64 n n_fits)
    ∙ ap (λ (z : ℤ). z *ℤ p) (sym (read_known f f_fits))

-- what is computed is the turn
pub turn_read : (m f g n p : ℤ) → mag m < 2 ^ 63 → mag f < 2 ^ 63 → mag g < 2 ^ 63 → FitsSigned w64 n → FitsSigned w64 p →
    g ≡ pos (gcd (nat_abs (read n)) (nat_abs (read p))) → m ≡ exact_quotient (read p) (nat_abs (read g)) →
    f ≡ exact_quotient (read n) (nat_abs (read g)) → record { multiplier = read m; factor = read f } ≡ turn_by n p
turn_read m f g n p m_fits f_fits g_fits n_fits p_fits g_is m_is f_is =
    let n_read : read n ≡ n = to_z-of_z w64 n n_fits in
    let p_read : read p ≡ p = to_z-of_z w64 p p_fits in
    let common : read g ≡ pos (gcd (nat_abs n) (nat_abs p)) =
    read_known g g_fits ∙ g_is ∙ ap₂ (λ (y z : ℤ). pos (gcd (nat_abs y) (nat_abs z))) n_read p_read in
    ap₂ (λ (y z : ℤ). record { multiplier = y; factor = z })
    (read_known m m_fits ∙ m_is ∙ ap₂ (λ (y z : ℤ). exact_quotient y (nat_abs z)) p_read common)
    (read_known f f_fits ∙ f_is ∙ ap₂ (λ (y z : ℤ). exact_quotient y (nat_abs z)) n_read common)

-- the multiplier is positive, and neither is greater than what it is made of
pub turn_positive : (n p : ℤ) → pos 0 <ℤ p → pos 0 <ℤ (turn_by n p).multiplier
turn_positive n (pos k) positive =
    let some = quotient_positive k (gcd (nat_abs n) k) (size_positive (pos k) positive) (gcd_is (nat_abs n) k).1 in
    omega (arith, ints, some)
turn_positive n (negsuc k) positive = absurd (omega (arith, ints, positive))

pub turn_small : (n p : ℤ) → (nat_abs (turn_by n p).multiplier ≤ nat_abs p) × (nat_abs (turn_by n p).factor ≤ nat_abs n)
turn_small n p = (quotient_size p (gcd (nat_abs n) (nat_abs p)), quotient_size n (gcd (nat_abs n) (nat_abs p)))

-- so whatever is the turn is within these
pub turn_ranges : (t : Turn) (n p : ℤ) → t ≡ turn_by n p → pos 0 <ℤ p →
    ((pos 0 <ℤ t.multiplier) × (t.multiplier ≤ℤ p)) × (nat_abs t.factor ≤ nat_abs n)
turn_ranges t n p is positive =
    subst (λ (u : Turn). ((pos 0 <ℤ u.multiplier) × (u.multiplier ≤ℤ p)) × (nat_abs u.factor ≤ nat_abs n)) (sym is)
    ((turn_positive n p positive, below (turn_by n p).multiplier (turn_small n p).0 (turn_positive n p positive)), (turn_small n p).1)
  where
    below : (m : ℤ) → nat_abs m ≤ nat_abs p → pos 0 <ℤ m → m ≤ℤ p
    below m less high = omega (arith, ints, less, high, positive)

-- what is computed as the least common multiple
pub common_multiple_is : (f s g q : ℤ) → pos 0 <ℤ f → pos 0 <ℤ s → FitsSigned w64 f → FitsSigned w64 s → mag g < 2 ^ 63 →
    g ≡ pos (gcd (nat_abs (read f)) (nat_abs (read s))) → q ≡ exact_quotient (read f) (nat_abs (read g)) →
    (q *ℤ s) ≡ pos (lcm (nat_abs f) (nat_abs s))
common_multiple_is f s g q f_positive s_positive f_fits s_fits g_fits g_is q_is =
    let both : g ≡ pos (gcd (nat_abs f) (nat_abs s)) =
    g_is ∙ ap₂ (λ (y z : ℤ). pos (gcd (nat_abs y) (nat_abs z))) (to_z-of_z w64 f f_fits) (to_z-of_z w64 s s_fits) in
    ap₂ (λ (y z : ℤ). y *ℤ z)
    (q_is ∙ ap₂ (λ (y z : ℤ). exact_quotient y (nat_abs z)) (to_z-of_z w64 f f_fits ∙ positive_is f f_positive) (read_known g g_fits ∙ both))
    (positive_is s s_positive)
    ∙ pos-*ℤ-pos (nat_abs f / gcd (nat_abs f) (nat_abs s)) (nat_abs s)

-- a multiple that is taken away from a number
pub taken_read : (n f z : ℤ) → nat_abs n ≤ 2 ^ 61 → nat_abs f ≤ 2 ^ 30 → nat_abs z ≤ 2 ^ 30 →
    (read n -ℤ read (read f *ℤ read z)) ≡ (n -ℤ (f *ℤ z))
taken_read n f z n_small f_small z_small =
    ap₂ (λ (x y : ℤ). x -ℤ y) (read_number n (omega (arith, n_small))) (product_read f z f_small z_small)

pub taken_small : (n f z : ℤ) → nat_abs n ≤ 2 ^ 61 → nat_abs f ≤ 2 ^ 30 → nat_abs z ≤ 2 ^ 30 → nat_abs (n -ℤ (f *ℤ z)) < 2 ^ 63
taken_small n f z n_small f_small z_small =
    let size = difference_small (2 ^ 61) (2 ^ 30 * 2 ^ 30) n (f *ℤ z) n_small (product_small (2 ^ 30) (2 ^ 30) f z f_small z_small) in
    omega (arith, size)

pub taken_fits : (n f z : ℤ) → nat_abs n ≤ 2 ^ 61 → nat_abs f ≤ 2 ^ 30 → nat_abs z ≤ 2 ^ 30 →
    FitsSigned w64 (read n -ℤ read (read f *ℤ read z))
taken_fits n f z n_small f_small z_small =
    subst (FitsSigned w64) (sym (taken_read n f z n_small f_small z_small))
    (fits_signed_from_abs w64 (n -ℤ (f *ℤ z)) (taken_small n f z n_small f_small z_small))

pub zero_taken : (n f z : ℤ) → z ≡ pos 0 → n ≡ (n -ℤ (f *ℤ z))
zero_taken n f z none =
    ring_by (n ∷ f ∷ z ∷ []) (var 0) (var 0 ⊖ (var 1 ⊗ var 2)) (using (var 1) (var 2) (num (pos 0)) none nothing) refl

-- a test of sizes: the sum of two products of sizes is computed as it is
sizes_natural : (y z : ℤ) → pos 0 ≤ℤ y → pos 0 ≤ℤ z → (y *ℤ z) ≡ pos (nat_abs y * nat_abs z)
sizes_natural (pos y) (pos z) y_high z_high = refl
sizes_natural (negsuc y) z y_high z_high = absurd (omega (arith, ints, y_high))
sizes_natural (pos y) (negsuc z) y_high z_high = absurd (omega (arith, ints, z_high))

-- such a product is at most 2^60
pub product_fits : (x y : ℤ) → nat_abs x ≤ 2 ^ 30 → nat_abs y ≤ 2 ^ 30 → nat_abs (read (read x *ℤ read y)) ≤ 2 ^ 60
product_fits x y x_small y_small =
    let size = product_small (2 ^ 30) (2 ^ 30) x y x_small y_small in
    omega (arith, size, ap nat_abs (product_read x y x_small y_small))

-- and 64 bits hold it
pub product_of_read : (x y : ℤ) → nat_abs x ≤ 2 ^ 30 → nat_abs y ≤ 2 ^ 30 → FitsSigned w64 (read x *ℤ read y)
product_of_read x y x_small y_small =
    let size = product_small (2 ^ 30) (2 ^ 30) x y x_small y_small in
    fits_signed_from_abs w64 (read x *ℤ read y)
    (subst (λ (z : ℤ). nat_abs z < 2 ^ 63)
    (sym (ap₂ (λ (p q : ℤ). p *ℤ q) (read_number x (omega (arith, x_small))) (read_number y (omega (arith, y_small)))))
    (omega (arith, size)))

-- with the other sign, too
negated : (z : ℤ) → nat_abs z ≤ 2 ^ 60 → FitsSigned w64 (neg_ℤ z)
negated z small = fits_signed_from_abs w64 (neg_ℤ z) (omega (arith, ints, small))

pub negated_number : (z : ℤ) → nat_abs z ≤ 2 ^ 30 → FitsSigned w64 (neg_ℤ (read z))
negated_number z small = negated (read z) (let read_small = small_read z small in omega (arith, read_small))

pub negated_fits : (x y : ℤ) → nat_abs x ≤ 2 ^ 30 → nat_abs y ≤ 2 ^ 30 → FitsSigned w64 (neg_ℤ (read (read x *ℤ read y)))
negated_fits x y x_small y_small = negated (read (read x *ℤ read y)) (product_fits x y x_small y_small)

-- two products, as `keeps` makes them
pub record AreKept (m most f e a : ℤ) : Type 0 where
  pub multiplier : (pos 0 <ℤ m) × (m ≤ℤ pos (2 ^ 30))
  pub factor : nat_abs f ≤ 2 ^ 30
  pub most_in : (pos 0 ≤ℤ most) × (most ≤ℤ pos (2 ^ 30))
  pub entering : (pos 0 ≤ℤ e) × (e ≤ℤ pos (2 ^ 30))
  pub size : a ≡ pos (nat_abs (read f))

module _ (m most f e a : ℤ) (k : AreKept m most f e a) where
  m_small : nat_abs m ≤ 2 ^ 30
  m_small = positive_size m (2 ^ 30) k.multiplier

  most_small : nat_abs most ≤ 2 ^ 30
  most_small = size_of most (2 ^ 30) k.most_in

  e_small : nat_abs e ≤ 2 ^ 30
  e_small = size_of e (2 ^ 30) k.entering

  a_is : a ≡ pos (nat_abs f)
  a_is = k.size ∙ ap (λ (z : ℤ). pos (nat_abs z)) (read_number f (let h = k.factor in omega (arith, h)))

  a_small : nat_abs a ≤ 2 ^ 30
  a_small = subst (λ (z : ℤ). nat_abs z ≤ 2 ^ 30) (sym a_is) k.factor

  pub kept_product : FitsSigned w64 (read a *ℤ read e)
  kept_product = product_of_read a e a_small e_small

  m_high : pos 0 ≤ℤ m
  m_high = let h = k.multiplier.0 in omega (arith, ints, h)

  sum_is : (read (read m *ℤ read most) +ℤ read (read a *ℤ read e)) ≡ pos (nat_abs m * nat_abs most + nat_abs f * nat_abs e)
  sum_is =
      ap₂ (λ (x y : ℤ). x +ℤ y)
      (product_read m most m_small most_small ∙ sizes_natural m most m_high k.most_in.0)
      (product_read a e a_small e_small ∙ ap (λ (z : ℤ). z *ℤ e) a_is ∙ sizes_natural (pos (nat_abs f)) e (omega (arith, ints)) k.entering.0)

  sum_small : nat_abs m * nat_abs most + nat_abs f * nat_abs e < 2 ^ 63
  sum_small =
      let first : nat_abs m * nat_abs most ≤ 2 ^ 30 * 2 ^ 30 = mul-le-mul m_small most_small in
      let second : nat_abs f * nat_abs e ≤ 2 ^ 30 * 2 ^ 30 = mul-le-mul k.factor e_small in
      omega (arith, first, second)

  pub kept_fits : FitsSigned w64 (read (read m *ℤ read most) +ℤ read (read a *ℤ read e))
  kept_fits = subst (FitsSigned w64) (sym sum_is) (fits_signed_from_abs w64 (pos (nat_abs m * nat_abs most + nat_abs f * nat_abs e)) sum_small)

  pub kept_test : IsTrue (le_z (read (read (read m *ℤ read most) +ℤ read (read a *ℤ read e))) (pos (2 ^ 30)))
      ↔ (nat_abs m * nat_abs most + nat_abs f * nat_abs e ≤ 2 ^ 30)
  kept_test =
      test_natural _ (pos (2 ^ 30)) (nat_abs m * nat_abs most + nat_abs f * nat_abs e) (2 ^ 30)
      (ap read sum_is ∙ read_number (pos (nat_abs m * nat_abs most + nat_abs f * nat_abs e)) sum_small) refl

-- the size of a product of numbers of at most 2^30 in size is the product of their sizes
product_abs : (x y a : ℤ) → nat_abs x ≤ 2 ^ 30 → nat_abs y ≤ 2 ^ 30 → a ≡ pos (nat_abs (read (read x *ℤ read y))) → a ≡ pos (nat_abs x * nat_abs y)
product_abs x y a x_small y_small is =
    is ∙ ap (λ (z : ℤ). pos (nat_abs z)) (product_read x y x_small y_small) ∙ ap pos (unsigned_abs-mul x y)

-- two products, as `most_after` makes them
pub record AreMeasured (m most f e a b : ℤ) : Type 0 where
  pub multiplier : nat_abs m ≤ 2 ^ 30
  pub most_in : nat_abs most ≤ 2 ^ 30
  pub factor : nat_abs f ≤ 2 ^ 30
  pub entering : nat_abs e ≤ 2 ^ 30
  pub first : a ≡ pos (nat_abs (read (read m *ℤ read most)))
  pub second : b ≡ pos (nat_abs (read (read f *ℤ read e)))

module _ (m most f e a b : ℤ) (k : AreMeasured m most f e a b) where
  first_small : nat_abs m * nat_abs most ≤ 2 ^ 60
  first_small = let small : nat_abs m * nat_abs most ≤ 2 ^ 30 * 2 ^ 30 = mul-le-mul k.multiplier k.most_in in omega (arith, small)

  second_small : nat_abs f * nat_abs e ≤ 2 ^ 60
  second_small = let small : nat_abs f * nat_abs e ≤ 2 ^ 30 * 2 ^ 30 = mul-le-mul k.factor k.entering in omega (arith, small)

  -- their sum is that of the products of sizes
  measured_is : (read a +ℤ read b) ≡ pos (nat_abs m * nat_abs most + nat_abs f * nat_abs e)
  measured_is =
      ap₂ (λ (x y : ℤ). x +ℤ y)
      (ap read (product_abs m most a k.multiplier k.most_in k.first) ∙ read_number (pos (nat_abs m * nat_abs most)) (omega (arith, first_small)))
      (ap read (product_abs f e b k.factor k.entering k.second) ∙ read_number (pos (nat_abs f * nat_abs e)) (omega (arith, second_small)))

  pub measured_fits : FitsSigned w64 (read a +ℤ read b)
  measured_fits =
      subst (FitsSigned w64) (sym measured_is)
      (fits_signed_from_abs w64 (pos (nat_abs m * nat_abs most + nat_abs f * nat_abs e)) (omega (arith, first_small, second_small)))

  pub measured_read : read (read a +ℤ read b) ≡ pos (nat_abs m * nat_abs most + nat_abs f * nat_abs e)
  measured_read =
      ap read measured_is ∙ read_number (pos (nat_abs m * nat_abs most + nat_abs f * nat_abs e)) (omega (arith, first_small, second_small))

-- what is read of 128 bits
abbrev pub wide : ℤ → ℤ
wide z = to_z w128 (of_z w128 z)

pub wide_number : (z : ℤ) → nat_abs z < 2 ^ 127 → wide z ≡ z
wide_number z small = to_z-of_z w128 z (fits_signed_from_abs w128 z small)

fitting_size : (z : ℤ) → mag z < 2 ^ 63 → nat_abs z ≤ 2 ^ 63
fitting_size (pos n) fits = omega (arith, fits)
fitting_size (negsuc n) fits = omega (arith, fits)

wide_product : (x y a b : ℤ) → x ≡ a → y ≡ b → nat_abs a ≤ 2 ^ 30 → nat_abs b ≤ 2 ^ 63 → wide (wide x *ℤ wide y) ≡ (a *ℤ b)
wide_product x y a b x_is y_is a_small b_small =
    ap₂ (λ (p q : ℤ). wide (p *ℤ q)) (ap wide x_is ∙ wide_number a (omega (arith, a_small))) (ap wide y_is ∙ wide_number b (omega (arith, b_small)))
    ∙ wide_number (a *ℤ b) (omega (arith, product_small (2 ^ 30) (2 ^ 63) a b a_small b_small))

-- a number that has turned, as 128 bits hold it
module _ (t : Turn) (n e m' n' f' e' : ℤ) (m_small : nat_abs t.multiplier ≤ 2 ^ 30) (f_small : nat_abs t.factor ≤ 2 ^ 30)
    (n_fits : FitsSigned w64 n) (e_fits : FitsSigned w64 e)
    (m_is : m' ≡ read t.multiplier) (n_is : n' ≡ read n) (f_is : f' ≡ read t.factor) (e_is : e' ≡ read e) where
  wide_is : (wide (wide m' *ℤ wide n') -ℤ wide (wide f' *ℤ wide e')) ≡ turned_number t n e
  wide_is =
      ap₂ (λ (x y : ℤ). x -ℤ y)
      (wide_product m' n' t.multiplier n (m_is ∙ read_number t.multiplier (omega (arith, m_small))) (n_is ∙ to_z-of_z w64 n n_fits) m_small
      (fitting_size n n_fits.sfits))
      (wide_product f' e' t.factor e (f_is ∙ read_number t.factor (omega (arith, f_small))) (e_is ∙ to_z-of_z w64 e e_fits) f_small
      (fitting_size e e_fits.sfits))

  wide_small : nat_abs (turned_number t n e) < 2 ^ 127
  wide_small =
      let size = difference_small (2 ^ 30 * 2 ^ 63) (2 ^ 30 * 2 ^ 63) (t.multiplier *ℤ n) (t.factor *ℤ e)
      (product_small (2 ^ 30) (2 ^ 63) t.multiplier n m_small (fitting_size n n_fits.sfits))
      (product_small (2 ^ 30) (2 ^ 63) t.factor e f_small (fitting_size e e_fits.sfits)) in
      omega (arith, size)

  pub turned_fits : FitsSigned w128 (wide (wide m' *ℤ wide n') -ℤ wide (wide f' *ℤ wide e'))
  turned_fits = subst (FitsSigned w128) (sym wide_is) (fits_signed_from_abs w128 (turned_number t n e) wide_small)

  pub turned_is : wide (wide (wide m' *ℤ wide n') -ℤ wide (wide f' *ℤ wide e')) ≡ turned_number t n e
  turned_is = ap wide wide_is ∙ wide_number (turned_number t n e) wide_small

-- no size is greater than the greatest one
pub greatest_within : (zs : List ℤ) → AllWithin (greatest_of zs) zs
greatest_within [] i d i_in = absurd (omega (arith, i_in))
greatest_within (z ∷ zs) zero d i_in = le-max_left (nat_abs z) (greatest_of zs)
greatest_within (z ∷ zs) (suc i) d i_in = le_trans (greatest_within zs i d (omega (arith, i_in))) (le-max_right (nat_abs z) (greatest_of zs))

-- and it is no greater than another bound
pub greatest_least : (zs : List ℤ) (most : ℕ) → AllWithin most zs → greatest_of zs ≤ most
greatest_least [] most within = omega arith
greatest_least (z ∷ zs) most within =
    max-le (within 0 (pos 0) (omega arith)) (greatest_least zs most (All-tail (λ (y : ℤ). nat_abs y ≤ most) z zs within))

pub greatest_is : (zs : List ℤ) (most : ℕ) → AllWithin most zs → ((m : ℕ) → AllWithin m zs → most ≤ m) → most ≡ greatest_of zs
greatest_is zs most within least = omega (arith, greatest_least zs most within, least (greatest_of zs) (greatest_within zs))

-- numbers stay small where those of greater sizes do
pub sizes_kept : (m f a b c d : ℕ) → a ≤ b → c ≤ d → m * b + f * d ≤ 2 ^ 30 → m * a + f * c ≤ 2 ^ 30
sizes_kept m f a b c d first second kept =
    let more : m * a ≤ m * b = mul-le-mul_left m first in
    let too : f * c ≤ f * d = mul-le-mul_left f second in
    omega (arith, more, too, kept)

-- the number at the pivot's column stays small
pub own_kept : (m f : ℕ) (d : ℤ) → nat_abs d ≤ 2 ^ 30 → f * nat_abs d ≤ 2 ^ 30 → m * 0 + f * nat_abs (read d) ≤ 2 ^ 30
own_kept m f d small kept =
    subst (λ (z : ℤ). m * 0 + f * nat_abs z ≤ 2 ^ 30) (sym (read_number d (omega (arith, small)))) (omega (arith, kept))

pub own_told : (m f : ℕ) (d : ℤ) → nat_abs d ≤ 2 ^ 30 → m * 0 + f * nat_abs (read d) ≤ 2 ^ 30 → f * nat_abs d ≤ 2 ^ 30
own_told m f d small kept =
    let there = subst (λ (z : ℤ). m * 0 + f * nat_abs z ≤ 2 ^ 30) (read_number d (omega (arith, small))) kept in
    omega (arith, there)
