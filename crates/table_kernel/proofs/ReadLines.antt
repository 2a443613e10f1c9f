-- Lines that are read from lines of fractions, number by number.
use borrow.Author.Count.{below_more}
use Rattle.std.proofs.Common.{◌≡◌, ℕ, zero, suc, ◌+◌, ◌/◌, ◌^◌, ◌<◌, ◌≤◌, sym, ◌∙◌, ap, subst, List, length, arith}
use Rattle.std.specs.Prelude.{ℤ, pos, ◌≤ℤ◌, nat_abs, slice_set}
use Rattle.std.proofs.Math.Nat.{div-mul-le_self, div-zero, mul-le-mul_left}
use Rattle.std.proofs.lemmas.Nat.{le-div}
use Rattle.std.proofs.lemmas.Int.{ints}
use Rattle.std.proofs.lemmas.List.{get_or-set_other, get_or-set_same, length-set}
use Rattle.std.proofs.lemmas.Nat.Gcd.{le_of_dvd}
use Rattle.whole_numbers.specs.Fractions.{Fraction}
use Rattle.whole_numbers.specs.Lists.{number_at}
use Rattle.whole_numbers.proofs.Sizes.{product_size}
use Rattle.design_problem.specs.Basis.{entry}
use Rattle.integer_pivots.specs.declared.line.Line.{Line}
use Rattle.integer_pivots.specs.Lines.{IsLine}
use Rattle.integer_pivots.specs.Numbers.{AllWithin}
use Rattle.integer_pivots.proofs.Sizes.{read, read_number, size_most}
use Rattle.table_kernel.specs.ReadBack.{FitsOver, IsLeastDenominator, IsReadFrom, over_denominator}

-- the number is that of a fraction over the denominator, and at most 2^30 in size
pub record IsReadOf (q : Fraction) (denominator number : ℤ) : Type 0 where
  pub is : number ≡ over_denominator (nat_abs denominator) q
  pub small : nat_abs number ≤ 2 ^ 30

-- the numbers before this column are those of the fractions over the denominator
pub record AreReadTo (row : List Fraction) (denominator : ℤ) (old : List ℤ) (column : ℕ) (new : List ℤ) : Type 0 where
  pub count : length new ≡ length old
  pub each : (c : ℕ) → c < column → IsReadOf (entry row (suc c)) denominator (number_at new c)

-- one number more
pub next_read : (row : List Fraction) (denominator : ℤ) (old now new : List ℤ) (column : ℕ) (q : Fraction) (number : ℤ) →
    column < length old → q ≡ entry row (suc column) → AreReadTo row denominator old column now →
    (number ≡ over_denominator (nat_abs denominator) q) × (nat_abs number ≤ 2 ^ 30) →
    new ≡ slice_set now column (read number) → AreReadTo row denominator old (column + 1) new
next_read row denominator old now new column q number column_in q_is before is new_is =
    let known : read number ≡ number = read_number number (omega (arith, is.1)) in
    let there : column < length now = omega (arith, before.count, column_in) in
    let here : number_at (slice_set now column number) column ≡ number = get_or-set_same now column number (pos 0) there in
    subst (AreReadTo row denominator old (column + 1)) (sym (new_is ∙ ap (slice_set now column) known))
    (record {
      count = length-set now column number ∙ before.count;
      each = below_more (λ c. IsReadOf (entry row (suc c)) denominator (number_at (slice_set now column number) c)) column
          (λ c below. subst (IsReadOf (entry row (suc c)) denominator)
          (sym (get_or-set_other now column c number (pos 0) (omega (arith, below)))) (before.each c below))
          (subst (λ (p : Fraction). IsReadOf p denominator (number_at (slice_set now column number) column)) q_is
          (subst (IsReadOf q denominator) (sym here) (record { is = is.0; small = is.1 })));
    })

-- the least common denominator, as 64 bits hold it
pub least_read : (row : List Fraction) (denominator : ℤ) → IsLeastDenominator row denominator → IsLeastDenominator row (read denominator)
least_read row denominator is =
    let small = size_most denominator (2 ^ 30) is.positive is.small in
    subst (IsLeastDenominator row) (sym (read_number denominator (omega (arith, small)))) is

-- a quotient of a greater number isn't smaller
quotient_greater : (m n k : ℕ) → m ≤ n → m / k ≤ n / k
quotient_greater m n zero most = omega (arith, div-zero m)
quotient_greater m n (suc k) most = le-div (m / suc k) n (suc k) (omega arith) (omega (arith, div-mul-le_self m (suc k), most))

-- over a greater denominator a fraction's number isn't smaller
over_greater : (d D : ℕ) (q : Fraction) → d ≤ D → nat_abs (over_denominator d q) ≤ nat_abs (over_denominator D q)
over_greater d D q most =
    let share : d / q.denominator ≤ D / q.denominator = quotient_greater d D q.denominator most in
    omega (arith, product_size q.numerator (d / q.denominator), product_size q.numerator (D / q.denominator), mul-le-mul_left (nat_abs q.numerator) share)

-- a denominator over which the fractions fit isn't below the least one
least_below : (row : List Fraction) (denominator : ℤ) (D : ℕ) → IsLeastDenominator row denominator → FitsOver D row → nat_abs denominator ≤ D
least_below row denominator D is fits = le_of_dvd fits.positive (is.least D fits.common)

-- so where the constant or a number is too large over the least one, the fractions fit over none
pub constant_refused : (row : List Fraction) (denominator : ℤ) (q : Fraction) → IsLeastDenominator row denominator → q ≡ entry row 0 →
    2 ^ 44 < nat_abs (over_denominator (nat_abs denominator) q) → (D : ℕ) → FitsOver D row → ⊥
constant_refused row denominator q is q_is large D fits =
    let more = over_greater (nat_abs denominator) D q (least_below row denominator D is fits) in
    let most : nat_abs (over_denominator D q) ≤ 2 ^ 44 = subst (λ (p : Fraction). nat_abs (over_denominator D p) ≤ 2 ^ 44) (sym q_is) fits.constant in
    absurd (omega (arith, more, most, large))

pub number_refused : (row : List Fraction) (denominator : ℤ) (width : ℕ) → IsLeastDenominator row denominator → length row ≡ suc width →
    (c : ℕ) × (c < width) × (2 ^ 30 < nat_abs (over_denominator (nat_abs denominator) (entry row (suc c)))) → (D : ℕ) → FitsOver D row → ⊥
number_refused row denominator width is long at D fits =
    let q = entry row (suc at.0) in
    let more = over_greater (nat_abs denominator) D q (least_below row denominator D is fits) in
    let most : nat_abs (over_denominator D q) ≤ 2 ^ 30 = fits.numbers at.0 (omega (arith, long, at.1)) in
    absurd (omega (arith, more, most, at.2))

-- the line that is made of what was read
abbrev pub line_made : ℤ → ℤ → List ℤ → ℤ → Line
line_made denominator constant numbers reach = record { denominator = denominator; constant = constant; numbers = numbers; reach = reach }

pub is_line : (row : List Fraction) (denominator constant reach : ℤ) (numbers seen : List ℤ) → IsLeastDenominator row denominator → seen ≡ numbers →
    AllWithin (2 ^ 30) numbers → AllWithin (nat_abs reach) seen → ((most : ℕ) → AllWithin most seen → nat_abs reach ≤ most) → pos 0 ≤ℤ reach →
    IsLine (line_made denominator constant numbers (read reach))
is_line row denominator constant reach numbers seen is same small within least from_zero =
    let most : nat_abs reach ≤ 2 ^ 30 = least (2 ^ 30) (subst (AllWithin (2 ^ 30)) (sym same) small) in
    subst (λ (z : ℤ). IsLine (line_made denominator constant numbers z)) (sym (read_number reach (omega (arith, most))))
    (record {
      positive = is.positive;
      denominator = is.small;
      reach_positive = from_zero;
      reach = omega (arith, ints, most);
      numbers = subst (AllWithin (nat_abs reach)) same within;
    })

pub is_read : (row : List Fraction) (denominator constant reach : ℤ) (numbers : List ℤ) (q : Fraction) → IsLeastDenominator row denominator →
    length row ≡ suc (length numbers) → q ≡ entry row 0 → (constant ≡ over_denominator (nat_abs denominator) q) × (nat_abs constant ≤ 2 ^ 44) →
    ((c : ℕ) → c < length numbers → number_at numbers c ≡ over_denominator (nat_abs denominator) (entry row (suc c))) →
    IsReadFrom row (line_made denominator (read constant) numbers reach)
is_read row denominator constant reach numbers q is long q_is constant_is each =
    record {
      least = is;
      count = long;
      constant = read_number constant (omega (arith, constant_is.1)) ∙ constant_is.0 ∙ ap (over_denominator (nat_abs denominator)) q_is;
      numbers = each;
    }
