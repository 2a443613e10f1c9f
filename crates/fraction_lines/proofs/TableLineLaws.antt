-- The fractions of a line at a place, after a write, and after two lines were crossed.
use Rattle.std.proofs.Common.{◌≡◌, ◌≢◌, ℕ, zero, suc, ◌*◌, ◌/◌, ◌^◌, ◌<◌, ◌≤◌, refl, sym, ◌∙◌, ap, subst, List, [], ◌∷◌, ◌++◌, length, map, take, drop, arith}
use Rattle.std.specs.Prelude.{ℤ, pos, negsuc, neg_ℤ, nat_abs, ◌*ℤ◌, slice_index_or, slice_set}
use Rattle.whole_numbers.specs.Fractions.{Fraction, IsLowest, gcd, minus, negated, plus, reduced, times, whole}
use Rattle.whole_numbers.proofs.Ring.{var, num, ◌⊗◌, neg, ring_by, nothing as no_more, using}
use Rattle.std.proofs.Math.Nat.{zero-div}
use Rattle.std.proofs.Math.IntN.{neg_ℤ-neg_ℤ}
use Rattle.cost_base.proofs.ListLemmas.{all_from_each}
use Rattle.whole_numbers.proofs.Laws.{neg-mul}
use Rattle.whole_numbers.proofs.FractionLaws.{cancel, product_positive, times_stands}
use Rattle.whole_numbers.proofs.Sizes.{negated_size}
use Rattle.wide_fraction.specs.Widths.{IsTop, IsWithin}
use Rattle.wide_fraction.proofs.Quotients.{zero_stands}
use Rattle.design_problem.specs.Basis.{entry}
use Rattle.fraction_lines.specs.TableLines.{AreTableNumbers, IsTableNumber, crossed_by, nothing}
use Rattle.fraction_lines.specs.Sums.{ArePut}
use Rattle.fraction_lines.specs.Turns.{AreTableLines}
use Rattle.fraction_lines.proofs.ZeroFractions.{times_lowest, crossed_nothing}
use Rattle.fraction_lines.proofs.SmallNumbers.{whole_number}

pub number_at : (top : ℕ) (qs : List Fraction) (k : ℕ) → AreTableNumbers top qs → k < length qs → IsTableNumber top (entry qs k)
number_at top qs k numbers k_in = all_from_each (IsTableNumber top) qs numbers k nothing k_in

pub written_numbers : (top : ℕ) (qs : List Fraction) (k : ℕ) (q : Fraction) → AreTableNumbers top qs → IsTableNumber top q →
    AreTableNumbers top (slice_set qs k q)
written_numbers top [] k q numbers q_is = tt
written_numbers top (p ∷ qs) zero q numbers q_is = (q_is, numbers.1)
written_numbers top (p ∷ qs) (suc k) q numbers q_is = (numbers.0, written_numbers top qs k q numbers.1 q_is)

pub crossed_entry : (factor : Fraction) (fs ts : List Fraction) (k : ℕ) → length ts ≡ length fs → k < length fs →
    entry (crossed_by factor fs ts) k ≡ minus (entry fs k) (times factor (entry ts k))
crossed_entry factor [] ts k same k_in = absurd (omega arith)
crossed_entry factor (f ∷ fs) [] k same k_in = absurd (omega arith)
crossed_entry factor (f ∷ fs) (t ∷ ts) zero same k_in = refl
crossed_entry factor (f ∷ fs) (t ∷ ts) (suc k) same k_in = crossed_entry factor fs ts k (omega arith) (omega arith)

-- where the quotient is 0 a line keeps its fraction
pub crossed_keeps : (factor : Fraction) (fs ts : List Fraction) (k : ℕ) (top : ℕ) → length ts ≡ length fs →
    k < length fs → IsTableNumber top (entry fs k) → 0 < factor.denominator → entry ts k ≡ nothing →
    entry (crossed_by factor fs ts) k ≡ entry fs k
crossed_keeps factor fs ts k top same k_in own positive none =
    crossed_entry factor fs ts k same k_in
    ∙ ap (λ (q : Fraction). minus (entry fs k) (times factor q)) none
    ∙ crossed_nothing (entry fs k) factor own.lowest positive

product_zero : (a b : ℤ) → b ≢ pos 0 → (a *ℤ b) ≡ pos 0 → a ≡ pos 0
product_zero a (pos zero) not_zero e = absurd (not_zero refl)
product_zero a (pos (suc n)) not_zero e =
    cancel (suc n) a (pos 0) (omega arith) (e ∙ sym (lib.IntN.zero-*ℤ (pos (suc n))))
product_zero a (negsuc n) not_zero e =
    cancel (suc n) a (pos 0) (omega arith)
    (ring_by (a ∷ pos (suc n) ∷ []) (var 0 ⊗ var 1) (num (pos 0) ⊗ var 1)
    (using (num (negsuc 0)) (var 0 ⊗ neg (var 1)) (num (pos 0)) e no_more) refl)

-- a product of fractions that aren't 0 isn't
pub times_not_zero : (p q : Fraction) → 0 < p.denominator → 0 < q.denominator → p.numerator ≢ pos 0 → q.numerator ≢ pos 0 → (times p q).numerator ≢ pos 0
times_not_zero p q p_positive q_positive p_not q_not e =
    let stands = times_stands p q p.numerator q.numerator p.denominator q.denominator p_positive q_positive refl refl in
    let zeros = zero_stands (times p q) (p.numerator *ℤ q.numerator) (p.denominator * q.denominator)
    (times_lowest p q p_positive q_positive).positive
    (product_positive p.denominator q.denominator p_positive q_positive) stands in
    p_not (product_zero p.numerator q.numerator q_not (zeros.0 e))

pub times_number : (top : ℕ) (p q r : Fraction) → 0 < p.denominator → 0 < q.denominator → r ≡ times p q → IsWithin top r → IsTableNumber top r
times_number top p q r p_positive q_positive r_is r_within =
    record { lowest = subst IsLowest (sym r_is) (times_lowest p q p_positive q_positive); within = r_within }

-- 1 is a number of the table, wherever there is one
pub one_within : (top : ℕ) (q : Fraction) → IsTableNumber top q → IsWithin top (whole (pos 1))
one_within top q q_is =
    record {
      numerator = omega (arith, q_is.lowest.positive, q_is.within.denominator);
      denominator = omega (arith, q_is.lowest.positive, q_is.within.denominator);
    }

-- each of the lines has their length, and numbers of the table
pub lines_at : (top count : ℕ) (lines : List (List Fraction)) (k : ℕ) (d : List Fraction) → AreTableLines top count lines →
    k < length lines → (length (slice_index_or lines k d) ≡ count) × AreTableNumbers top (slice_index_or lines k d)
lines_at top count [] k d are k_in = absurd (omega arith)
lines_at top count (fs ∷ lines) zero d are k_in = (are.0, are.1)
lines_at top count (fs ∷ lines) (suc k) d are k_in = lines_at top count lines k d are.2 (omega arith)

pub lines_set : (top count : ℕ) (lines : List (List Fraction)) (k : ℕ) (line : List Fraction) → AreTableLines top count lines →
    length line ≡ count → AreTableNumbers top line → AreTableLines top count (slice_set lines k line)
lines_set top count [] k line fit counted numbers = tt
lines_set top count (fs ∷ lines) zero line fit counted numbers = (counted, numbers, fit.2)
lines_set top count (fs ∷ lines) (suc k) line fit counted numbers = (fit.0, fit.1, lines_set top count lines k line fit.2 counted numbers)

-- where only the lines before an index were changed, the line at the index is as before
pub later_same : (f : List Fraction → List Fraction) (lines now : List (List Fraction)) (k : ℕ) (d : List Fraction) →
    now ≡ map f (take k lines) ++ drop k lines → slice_index_or now k d ≡ slice_index_or lines k d
later_same f lines now k d now_is = ap (λ (l : List (List Fraction)). slice_index_or l k d) now_is ∙ before lines k
  where
    before : (lines : List (List Fraction)) (k : ℕ) → slice_index_or (map f (take k lines) ++ drop k lines) k d ≡ slice_index_or lines k d
    before [] zero = refl
    before [] (suc k) = refl
    before (fs ∷ lines) zero = refl
    before (fs ∷ lines) (suc k) = before lines k

-- a difference with the negated multiple is a sum
reduced_negated : (m : ℤ) (d : ℕ) → negated (reduced (neg_ℤ m) d) ≡ reduced m d
reduced_negated (pos zero) d =
    ap (λ (z : ℤ). record { numerator = z; denominator = d / gcd 0 d }) (none (0 / gcd 0 d) (zero-div (gcd 0 d)))
  where
    none : (n : ℕ) → n ≡ 0 → neg_ℤ (pos n) ≡ pos n
    none n is = ap (λ (k : ℕ). neg_ℤ (pos k)) is ∙ ap pos (sym is)
reduced_negated (pos (suc n)) d =
    ap (λ (z : ℤ). record { numerator = z; denominator = d / gcd (suc n) d }) (neg_ℤ-neg_ℤ (pos (suc n / gcd (suc n) d)))
reduced_negated (negsuc n) d = refl

minus_negated : (p q : Fraction) (c : ℤ) → minus p (times (whole (neg_ℤ c)) q) ≡ plus p (times (whole c) q)
minus_negated p q c =
    ap (λ (t : Fraction). plus p t)
    (ap (λ (z : ℤ). negated (reduced z (1 * q.denominator))) (neg-mul c q.numerator) ∙ reduced_negated (c *ℤ q.numerator) (1 * q.denominator))

pub crossed_put : (factor : Fraction) (c : ℤ) (fs ts new : List Fraction) → factor ≡ whole (neg_ℤ c) →
    length ts ≡ length fs → new ≡ crossed_by factor fs ts → ArePut (whole c) ts fs new
crossed_put factor c fs ts new factor_is same new_is place place_in =
    ap (λ (l : List Fraction). entry l place) new_is
    ∙ crossed_entry factor fs ts place same place_in
    ∙ ap (λ (q : Fraction). minus (entry fs place) (times q (entry ts place))) factor_is
    ∙ minus_negated (entry fs place) (entry ts place) c

-- a small coefficient with the other sign is a number of the table
pub negated_number : (top : ℕ) (factor : Fraction) (c : ℤ) → IsTop top → nat_abs c ≤ 2 ^ 26 → factor ≡ whole (neg_ℤ c) → IsTableNumber top factor
negated_number top factor c is_top small factor_is =
    subst (IsTableNumber top) (sym factor_is) (whole_number top (neg_ℤ c) is_top (omega (arith, negated_size c, small)))
