-- Zero among the fractions: what is 0 is 0/1, products with it are 0, and less it nothing changes.
use Rattle.std.proofs.Common.{◌≡◌, ℕ, zero, suc, ◌*◌, ◌<◌, ◌≤◌, refl, sym, ◌∙◌, ap, subst, arith}
use Rattle.std.specs.Prelude.{ℤ, pos, negsuc, ◌-ℤ◌, ◌*ℤ◌, nat_abs}
use Rattle.std.proofs.lemmas.Int.{ints}
use Rattle.whole_numbers.specs.Fractions.{Fraction, IsLowest, StandsFor, minus, times, divided, inverse, inverted, whole}
use Rattle.whole_numbers.proofs.Sums.{lowest_unique}
use Rattle.whole_numbers.proofs.FractionLaws.{reduced_lowest, product_positive, times_stands, whole_lowest}
use Rattle.whole_numbers.proofs.Multiples.{minus_stands_over}
use Rattle.wide_fraction.specs.Widths.{IsWithin}
use Rattle.wide_fraction.proofs.Quotients.{zero_stands}
use Rattle.fraction_lines.specs.TableLines.{nothing, IsTableNumber}

pub nothing_lowest : IsLowest nothing
nothing_lowest = record { positive = omega arith; lowest = refl }

-- what is 0 in lowest terms is 0/1
pub lowest_zero : (q : Fraction) → IsLowest q → q.numerator ≡ pos 0 → q ≡ nothing
lowest_zero q q_lowest zero_is =
    lowest_unique q nothing q_lowest nothing_lowest
    (ap (λ z. z *ℤ pos 1) zero_is ∙ sym (lib.IntN.zero-*ℤ (pos q.denominator)))

pub times_lowest : (p q : Fraction) → 0 < p.denominator → 0 < q.denominator → IsLowest (times p q)
times_lowest p q p_positive q_positive =
    reduced_lowest (p.numerator *ℤ q.numerator) (p.denominator * q.denominator) (product_positive p.denominator q.denominator p_positive q_positive)

pub times_nothing : (p : Fraction) → 0 < p.denominator → times p nothing ≡ nothing
times_nothing p p_positive =
    let t_lowest = times_lowest p nothing p_positive (omega arith) in
    let stands = times_stands p nothing p.numerator (pos 0) p.denominator 1 p_positive (omega arith) refl refl in
    let zeros = zero_stands (times p nothing) (p.numerator *ℤ pos 0) (p.denominator * 1) t_lowest.positive (omega arith) stands in
    lowest_zero (times p nothing) t_lowest (zeros.1 (lib.IntN.*ℤ-zero p.numerator))

pub nothing_times : (q : Fraction) → 0 < q.denominator → times nothing q ≡ nothing
nothing_times q q_positive =
    let t_lowest = times_lowest nothing q (omega arith) q_positive in
    let stands = times_stands nothing q (pos 0) q.numerator 1 q.denominator (omega arith) q_positive refl refl in
    let zeros = zero_stands (times nothing q) (pos 0 *ℤ q.numerator) (1 * q.denominator) t_lowest.positive (omega arith) stands in
    lowest_zero (times nothing q) t_lowest (zeros.1 (lib.IntN.zero-*ℤ q.numerator))

pub minus_lowest : (p q : Fraction) → 0 < p.denominator → 0 < q.denominator → IsLowest (minus p q)
minus_lowest p q p_positive q_positive =
    reduced_lowest _ (p.denominator * q.denominator) (product_positive p.denominator q.denominator p_positive q_positive)

pub minus_nothing : (q : Fraction) → IsLowest q → minus q nothing ≡ q
minus_nothing q q_lowest =
    let zero_is : StandsFor nothing (pos 0) q.denominator = lib.IntN.zero-*ℤ (pos q.denominator) in
    let stands = minus_stands_over q nothing q.numerator (pos 0) q.denominator q_lowest.positive (omega arith) q_lowest.positive refl zero_is in
    lowest_unique (minus q nothing) q (minus_lowest q nothing q_lowest.positive (omega arith)) q_lowest
    (stands ∙ ap (λ z. z *ℤ pos (minus q nothing).denominator) (less_zero q.numerator))
  where
    less_zero : (z : ℤ) → (z -ℤ pos 0) ≡ z
    less_zero z = omega (arith, ints)

-- a term with a quotient of 0 leaves the fraction
pub crossed_nothing : (old factor : Fraction) → IsLowest old → 0 < factor.denominator → minus old (times factor nothing) ≡ old
crossed_nothing old factor old_lowest factor_positive =
    ap (λ (t : Fraction). minus old t) (times_nothing factor factor_positive) ∙ minus_nothing old old_lowest

-- 0 is a number of the table, wherever there is one
pub nothing_number : (top : ℕ) (q : Fraction) → IsTableNumber top q → IsTableNumber top nothing
nothing_number top q q_is =
    record {
      lowest = nothing_lowest;
      within = record { numerator = omega arith; denominator = omega (arith, q_is.lowest.positive, q_is.within.denominator) };
    }

pub inverse_positive : (n : ℤ) (d : ℕ) → 0 < (inverted n d).denominator
inverse_positive (pos zero) d = omega arith
inverse_positive (pos (suc n)) d = omega arith
inverse_positive (negsuc n) d = omega arith

pub nothing_divided : (q : Fraction) → divided nothing q ≡ nothing
nothing_divided q = nothing_times (inverse q) (inverse_positive q.numerator q.denominator)

pub divided_lowest : (p q : Fraction) → 0 < p.denominator → IsLowest (divided p q)
divided_lowest p q p_positive = times_lowest p (inverse q) p_positive (inverse_positive q.numerator q.denominator)

-- a quotient that is within the top is a number of the table
pub divided_number : (top : ℕ) (p q r : Fraction) → 0 < p.denominator → r ≡ divided p q → IsWithin top r → IsTableNumber top r
divided_number top p q r p_positive r_is r_within =
    record { lowest = subst IsLowest (sym r_is) (divided_lowest p q p_positive); within = r_within }

-- a whole number less the product of two is a whole number
pub whole_crossed : (a b c : ℤ) → minus (whole a) (times (whole b) (whole c)) ≡ whole (a -ℤ (b *ℤ c))
whole_crossed a b c =
    let t_lowest = times_lowest (whole b) (whole c) (omega arith) (omega arith) in
    let product = times_stands (whole b) (whole c) b c 1 1 (omega arith) (omega arith) refl refl in
    let stands = minus_stands_over (whole a) (times (whole b) (whole c)) a (b *ℤ c) 1 (omega arith) t_lowest.positive (omega arith) refl product in
    lowest_unique (minus (whole a) (times (whole b) (whole c))) (whole (a -ℤ (b *ℤ c)))
    (minus_lowest (whole a) (times (whole b) (whole c)) (omega arith) t_lowest.positive) (whole_lowest (a -ℤ (b *ℤ c))) stands

-- a whole number within the top
pub whole_within : (top : ℕ) (n : ℤ) → 1 ≤ top → nat_abs n ≤ top → IsTableNumber top (whole n)
whole_within top n some small =
    record { lowest = whole_lowest n; within = record { numerator = small; denominator = some } }

-- what the short way makes
pub short_value : (top size : ℕ) (a b c p v w : ℤ) (q : Fraction) → q ≡ whole v → p ≡ (b *ℤ c) → v ≡ (w -ℤ p) → w ≡ a →
    nat_abs v ≤ size → size ≡ top → 1 ≤ top → (q ≡ minus (whole a) (times (whole b) (whole c))) × IsTableNumber top q
short_value top size a b c p v w q q_is p_is v_is w_is small size_is some = (
  q_is ∙ ap (λ (z : ℤ). whole z) (v_is ∙ ap (λ (z : ℤ). z -ℤ p) w_is ∙ ap (λ (z : ℤ). a -ℤ z) p_is) ∙ sym (whole_crossed a b c),
  subst (IsTableNumber top) (sym q_is) (whole_within top v some (subst (λ (n : ℕ). nat_abs v ≤ n) size_is small)),
)
