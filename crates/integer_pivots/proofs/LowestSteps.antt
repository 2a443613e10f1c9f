-- The numbers of a line that has turned, as 64 bits hold them, and what they have in common, column by column.
use Rattle.std.proofs.Common.{◌≡◌, ◌≢◌, ℕ, zero, suc, ◌+◌, ◌*◌, ◌/◌, ◌^◌, ◌<◌, ◌≤◌, ◌↔◌, Bool, eq-eqb, ne_eqb, refl, sym, ◌∙◌, ap, subst, List, length, arith, inl, inr, FitsSigned, w64, to_z, of_z}
use Rattle.std.specs.Prelude.{ℤ, pos, negsuc, ◌-ℤ◌, ◌*ℤ◌, ◌<ℤ◌, nat_abs, neg_ℤ, if◌then◌else◌, ◌==◌}
use Rattle.std.specs.Int.{w128}
use Rattle.std.specs.Int.Signed.{mag, quot_z}
use Prim.Native.Nat.{◌∣◌}
use mathlib.Core.Path.{ap₂}
use Rattle.std.proofs.lemmas.Bool.{cases_lt}
use Rattle.std.proofs.lemmas.Int.{fits_signed_from_abs, ints, to_z-of_z, unsigned_abs-mul}
use Rattle.std.proofs.lemmas.List.{get_or_default}
use Rattle.std.proofs.lemmas.Nat.Gcd.{dvd_trans, le_of_dvd}
use Rattle.std.proofs.Math.Nat.{div-le_self, le_of_mul-le-mul_right, mul-le-mul, mul-le-mul_right}
use Rattle.whole_numbers.specs.Fractions.{exact_quotient, gcd}
use Rattle.whole_numbers.specs.Lists.{number_at}
use Rattle.whole_numbers.proofs.Divisors.{gcd_is, gcd_positive, quotient_positive}
use Rattle.whole_numbers.proofs.FractionLaws.{product_positive}
use Rattle.whole_numbers.proofs.Sizes.{size_positive}
use Rattle.integer_pivots.specs.declared.line.Line.{Line}
use Rattle.integer_pivots.specs.declared.lowest.Lowest.{Lowest}
use Rattle.integer_pivots.specs.declared.turned_line.Turn.{Turn}
use Rattle.integer_pivots.specs.Lines.{IsLine}
use Rattle.integer_pivots.specs.Numbers.{AllWithin}
use Rattle.integer_pivots.specs.Turns.{AreSmallAfter, IsAtPivot, IsLowestAfter, IsPartAfter, IsTurnedLine, turned_entry, turn_at, turned_number}
use Rattle.integer_pivots.proofs.Quotients.{divided_is, quotient_times}
use Rattle.integer_pivots.proofs.Sizes.{difference_small, positive_size, product_read, product_small, read, read_known, read_number}
use Rattle.integer_pivots.proofs.TurnLaws.{turn_positive, turn_small, wide, wide_number}
use Rattle.integer_pivots.proofs.TurnedLines.{scaled}
use Rattle.integer_pivots.proofs.WrittenPlaces.{AreWritten, all_more}
use Rattle.integer_pivots.proofs.LineReads.{number_small}

-- a line's number at the pivot's column, and at the others
pub after_own : (turn : Turn) (pivots : ℕ) (entering line : Line) (c : ℕ) → c ≡ pivots →
    turned_entry turn pivots entering line c ≡ (turn.factor *ℤ entering.denominator)
after_own turn pivots entering line c same =
    ap (λ (t : Bool). if t then turn.factor *ℤ entering.denominator else turned_number turn (number_at line.numbers c) (number_at entering.numbers c))
    (eq-eqb c pivots same)

pub after_other : (turn : Turn) (pivots : ℕ) (entering line : Line) (c : ℕ) → c ≢ pivots →
    turned_entry turn pivots entering line c ≡ turned_number turn (number_at line.numbers c) (number_at entering.numbers c)
after_other turn pivots entering line c apart =
    ap (λ (t : Bool). if t then turn.factor *ℤ entering.denominator else turned_number turn (number_at line.numbers c) (number_at entering.numbers c))
    (ne_eqb c pivots apart)

-- it depends on the line's number there alone
pub after_same : (turn : Turn) (pivots : ℕ) (entering line other : Line) (c : ℕ) → number_at line.numbers c ≡ number_at other.numbers c →
    turned_entry turn pivots entering line c ≡ turned_entry turn pivots entering other c
after_same turn pivots entering line other c same =
    ap (λ (z : ℤ). if c == pivots then turn.factor *ℤ entering.denominator else turned_number turn z (number_at entering.numbers c)) same

-- the size of a line's denominator
pub line_denominator : (line : Line) → IsLine line → nat_abs line.denominator ≤ 2 ^ 30
line_denominator line is = positive_size line.denominator (2 ^ 30) (is.positive, is.denominator)

-- the sizes of a turn
pub turn_sizes : (turn : Turn) (column : ℕ) (entering line : Line) → IsAtPivot column entering line → turn ≡ turn_at entering column line →
    (nat_abs turn.multiplier ≤ 2 ^ 30) × (nat_abs turn.factor ≤ 2 ^ 30) × (pos 0 <ℤ turn.multiplier)
turn_sizes turn column entering line p is =
    let small = turn_small (number_at line.numbers column) (number_at entering.numbers column) in
    let number = number_small line p.turning column in
    let pivot = number_small entering p.across column in
    subst (λ (t : Turn). (nat_abs t.multiplier ≤ 2 ^ 30) × (nat_abs t.factor ≤ 2 ^ 30) × (pos 0 <ℤ t.multiplier)) (sym is) (
      omega (arith, small.0, pivot),
      omega (arith, small.1, number),
      turn_positive (number_at line.numbers column) (number_at entering.numbers column) p.pivot,
    )

-- what code computes of four numbers of at most 2^30 in size
module _ (m f x y : ℤ) (m_small : nat_abs m ≤ 2 ^ 30) (f_small : nat_abs f ≤ 2 ^ 30) (x_small : nat_abs x ≤ 2 ^ 30) (y_small : nat_abs y ≤ 2 ^ 30) where
  pub after_small : nat_abs ((m *ℤ x) -ℤ (f *ℤ y)) ≤ 2 ^ 61
  after_small =
      let size = difference_small (2 ^ 30 * 2 ^ 30) (2 ^ 30 * 2 ^ 30) (m *ℤ x) (f *ℤ y)
      (product_small (2 ^ 30) (2 ^ 30) m x m_small x_small) (product_small (2 ^ 30) (2 ^ 30) f y f_small y_small) in
      omega (arith, size)

  after_parts : (read (read m *ℤ read x) -ℤ read (read f *ℤ read y)) ≡ ((m *ℤ x) -ℤ (f *ℤ y))
  after_parts = ap₂ (λ (a b : ℤ). a -ℤ b) (product_read m x m_small x_small) (product_read f y f_small y_small)

  pub after_fits : FitsSigned w64 (read (read m *ℤ read x) -ℤ read (read f *ℤ read y))
  after_fits = subst (FitsSigned w64) (sym after_parts) (fits_signed_from_abs w64 ((m *ℤ x) -ℤ (f *ℤ y)) (omega (arith, after_small)))

  pub after_read : read (read (read m *ℤ read x) -ℤ read (read f *ℤ read y)) ≡ ((m *ℤ x) -ℤ (f *ℤ y))
  after_read = ap read after_parts ∙ read_number ((m *ℤ x) -ℤ (f *ℤ y)) (omega (arith, after_small))

  pub after_read_small : nat_abs (read (read (read m *ℤ read x) -ℤ read (read f *ℤ read y))) ≤ 2 ^ 61
  after_read_small = subst (λ (z : ℤ). nat_abs z ≤ 2 ^ 61) (sym after_read) after_small

pub own_read_small : (f d : ℤ) → nat_abs f ≤ 2 ^ 30 → nat_abs d ≤ 2 ^ 30 → nat_abs (read (read f *ℤ read d)) ≤ 2 ^ 61
own_read_small f d f_small d_small =
    let size = product_small (2 ^ 30) (2 ^ 30) f d f_small d_small in
    omega (arith, size, ap nat_abs (product_read f d f_small d_small))

-- a number of a list that is another one
pub number_same : (xs ys : List ℤ) (k : ℕ) → xs ≡ ys → nat_abs (number_at ys k) ≤ 2 ^ 30 → nat_abs (number_at xs k) ≤ 2 ^ 30
number_same xs ys k same small = subst (λ (zs : List ℤ). nat_abs (number_at zs k) ≤ 2 ^ 30) (sym same) small

-- what the denominator, the constant and the numbers before a column have in common once the line has turned
pub record IsPartTo (turn : Turn) (column : ℕ) (entering line : Line) (count : ℕ) (part : ℤ) : Type 0 where
  pub positive : pos 0 <ℤ part
  pub denominator : nat_abs part ∣ nat_abs line.denominator * nat_abs turn.multiplier
  pub constant : nat_abs part ∣ nat_abs (turned_number turn line.constant entering.constant)
  pub numbers : (c : ℕ) → c < count → nat_abs part ∣ nat_abs (turned_entry turn column entering line c)
  pub greatest : (d : ℕ) → d ∣ nat_abs line.denominator * nat_abs turn.multiplier →
      d ∣ nat_abs (turned_number turn line.constant entering.constant) →
      ((c : ℕ) → c < count → d ∣ nat_abs (turned_entry turn column entering line c)) → d ∣ nat_abs part

gcd_high : (a b : ℕ) → 0 < b → pos 0 <ℤ pos (gcd a b)
gcd_high a b some = let high = gcd_positive a b some in omega (arith, ints, high)

-- the greatest common divisor of a number and a product of two of at most 2^30 is at most 2^60
pub first_small : (a d m : ℕ) → 0 < d → 0 < m → d ≤ 2 ^ 30 → m ≤ 2 ^ 30 → gcd a (d * m) ≤ 2 ^ 60
first_small a d m d_some m_some d_small m_small =
    let most = le_of_dvd (product_positive d m d_some m_some) (gcd_is a (d * m)).1 in
    let size : d * m ≤ 2 ^ 30 * 2 ^ 30 = mul-le-mul d_small m_small in
    omega (arith, most, size)

module _ (turn : Turn) (column : ℕ) (entering line : Line) where
  -- before the first column
  pub part_first : (part : ℤ) → pos 0 <ℤ line.denominator → pos 0 <ℤ turn.multiplier →
      part ≡ pos (gcd (nat_abs (turned_number turn line.constant entering.constant)) (nat_abs line.denominator * nat_abs turn.multiplier)) →
      IsPartTo turn column entering line 0 part
  part_first part d_high m_high is =
      let below = nat_abs line.denominator * nat_abs turn.multiplier in
      let above = nat_abs (turned_number turn line.constant entering.constant) in
      let g = gcd_is above below in
      subst (IsPartTo turn column entering line 0) (sym is) record {
        positive = gcd_high above below
            (product_positive (nat_abs line.denominator) (nat_abs turn.multiplier) (size_positive line.denominator d_high)
            (size_positive turn.multiplier m_high));
        denominator = g.1;
        constant = g.0;
        numbers = λ c c_in. absurd (omega (arith, c_in));
        greatest = λ d in_below in_above all. g.2 d in_above in_below;
      }

  -- with one more
  pub part_more : (i : ℕ) (part new : ℤ) → IsPartTo turn column entering line i part →
      new ≡ pos (gcd (nat_abs (turned_entry turn column entering line i)) (nat_abs part)) → IsPartTo turn column entering line (i + 1) new
  part_more i part new common is =
      let number = nat_abs (turned_entry turn column entering line i) in
      let g = gcd_is number (nat_abs part) in
      subst (IsPartTo turn column entering line (i + 1)) (sym is) record {
        positive = gcd_high number (nat_abs part) (size_positive part common.positive);
        denominator = dvd_trans _ g.1 common.denominator;
        constant = dvd_trans _ g.1 common.constant;
        numbers = all_more (λ c. gcd number (nat_abs part) ∣ nat_abs (turned_entry turn column entering line c)) i
            (λ c c_in. dvd_trans _ g.1 (common.numbers c c_in)) g.0;
        greatest = λ d below above all. g.2 d (all i (omega arith)) (common.greatest d below above (λ c c_in. all c (omega (arith, c_in))));
      }

  -- with all
  pub part_all : (i : ℕ) (part : ℤ) → i ≡ length line.numbers → IsPartTo turn column entering line i part → IsPartAfter turn column entering line part
  part_all i part all common = record {
    positive = common.positive;
    denominator = common.denominator;
    constant = common.constant;
    numbers = λ c c_in. common.numbers c (omega (arith, c_in, all));
    greatest = λ d below above each. common.greatest d below above (λ c c_in. each c (omega (arith, c_in, all)));
  }

-- the part of a line that turns at a pivot is at most 2^60
pub part_small : (turn : Turn) (column : ℕ) (entering line : Line) (part : ℤ) → IsAtPivot column entering line →
    turn ≡ turn_at entering column line → IsPartAfter turn column entering line part → nat_abs part ≤ 2 ^ 60
part_small turn column entering line part p is common =
    let sizes = turn_sizes turn column entering line p is in
    let most = le_of_dvd
    (product_positive (nat_abs line.denominator) (nat_abs turn.multiplier)
    (size_positive line.denominator p.turning.positive) (size_positive turn.multiplier sizes.2))
    common.denominator in
    let size : nat_abs line.denominator * nat_abs turn.multiplier ≤ 2 ^ 30 * 2 ^ 30 = mul-le-mul (line_denominator line p.turning) sizes.0 in
    omega (arith, most, size)

-- a number over a positive part is at most 2^30 in size where the number is at most so many parts
pub ratio_small : (q p n : ℤ) → pos 0 <ℤ p → (q *ℤ p) ≡ n → (nat_abs q ≤ 2 ^ 30) ↔ (nat_abs n ≤ 2 ^ 30 * nat_abs p)
ratio_small q p n high times =
    let size : nat_abs q * nat_abs p ≡ nat_abs n = sym (unsigned_abs-mul q p) ∙ ap nat_abs times in (
      λ small. subst (λ (k : ℕ). k ≤ 2 ^ 30 * nat_abs p) size (mul-le-mul_right (nat_abs p) small),
      λ small. le_of_mul-le-mul_right (subst (λ (k : ℕ). k ≤ 2 ^ 30 * nat_abs p) (sym size) small) (size_positive p high),
    )

-- an exact quotient of a positive number is positive
pub over_high : (n : ℤ) (g : ℕ) → pos 0 <ℤ n → g ∣ nat_abs n → pos 0 <ℤ exact_quotient n g
over_high (pos n) g high divides =
    let some = quotient_positive n g (size_positive (pos n) high) divides in
    omega (arith, ints, some)
over_high (negsuc n) g high divides = absurd (omega (arith, ints, high))

quotient_fits : (n : ℤ) (g : ℕ) → mag n < 2 ^ 127 → mag (exact_quotient n g) < 2 ^ 127
quotient_fits (pos n) g fits = omega (arith, fits, div-le_self n g)
quotient_fits (negsuc n) g fits = below (suc n / g) (div-le_self (suc n) g)
  where
    below : (k : ℕ) → k ≤ suc n → mag (neg_ℤ (pos k)) < 2 ^ 127
    below zero most = omega arith
    below (suc k) most = omega (arith, fits, most)

positive_bits : (z : ℤ) → pos 0 <ℤ z → nat_abs z < 2 ^ 127 → 0 < of_z w128 z
positive_bits z high small =
    elim (cases_lt 0 (of_z w128 z)) [
      | inl more ↦ more
      | inr none ↦ absurd (not_zero (sym (wide_number z small) ∙ ap (to_z w128) (let e : of_z w128 z ≡ 0 = omega (arith, none) in e)))
    ]
  where
    not_zero : z ≡ pos 0 → ⊥
    not_zero zero_is = omega (arith, ints, high, zero_is)

known_size : (z : ℤ) → pos 0 <ℤ z → mag z < 2 ^ 63 → nat_abs z < 2 ^ 127
known_size (pos n) high fits = omega (arith, fits)
known_size (negsuc n) high fits = absurd (omega (arith, ints, high))

-- a number of 128 bits over a positive one of 64 bits
module _ (t p f : ℤ) (t_fits : mag t < 2 ^ 127) (p_high : pos 0 <ℤ p) (p_fits : mag p < 2 ^ 63) (f_is : f ≡ read p) where
  f_same : f ≡ p
  f_same = f_is ∙ read_known p p_fits

  quotient_is : quot_z (wide t) (wide f) ≡ exact_quotient t (nat_abs p)
  quotient_is =
      ap₂ quot_z (to_z-of_z w128 t (record { sfits = t_fits })) (ap wide f_same ∙ wide_number p (known_size p p_high p_fits))
      ∙ divided_is t p p_high

  pub wide_divides : (0 < of_z w128 f) × FitsSigned w128 (quot_z (wide t) (wide f))
  wide_divides = (
    subst (λ (z : ℤ). 0 < of_z w128 z) (sym f_same) (positive_bits p p_high (known_size p p_high p_fits)),
    subst (FitsSigned w128) (sym quotient_is) (record { sfits = quotient_fits t (nat_abs p) t_fits }),
  )

  pub wide_times : nat_abs p ∣ nat_abs t → (wide (quot_z (wide t) (wide f)) *ℤ read p) ≡ t
  wide_times divides =
      ap₂ (λ (y z : ℤ). y *ℤ z) (to_z-of_z w128 (quot_z (wide t) (wide f)) wide_divides.1 ∙ quotient_is) (read_known p p_fits)
      ∙ quotient_times t p p_high divides

module _ (turn : Turn) (column : ℕ) (entering line : Line) where
  -- a number at a column is over a part
  abbrev pub IsOverPart : ℤ → ℕ → ℤ → Type 0
  IsOverPart part k z = (z *ℤ part) ≡ turned_entry turn column entering line k

  -- numbers over a part are small where those of the line are after the turn
  pub written_small : (part : ℤ) (i : ℕ) (news : List ℤ) → pos 0 <ℤ part → AreSmallAfter turn column entering line part →
      AreWritten (IsOverPart part) (pos 0) line.numbers i news → length line.numbers ≤ i → AllWithin (2 ^ 30) news
  written_small part i news high small w past k d k_in =
      let inside : k < length line.numbers = omega (arith, k_in, w.count) in
      subst (λ (z : ℤ). nat_abs z ≤ 2 ^ 30) (sym (get_or_default news k d (pos 0) k_in))
      ((ratio_small (number_at news k) part (turned_entry turn column entering line k) high (w.done k (omega (arith, inside, past)))).1
      (small k inside))

  -- and with the denominator and the constant they make a line that has turned
  pub turned_to : (lowest : Lowest) (i : ℕ) (new : Line) → IsLowestAfter turn column entering line lowest → column < length line.numbers →
      new.denominator ≡ lowest.denominator → new.constant ≡ lowest.constant →
      AreWritten (IsOverPart lowest.part) (pos 0) line.numbers i new.numbers → length line.numbers ≤ i →
      IsTurnedLine turn column entering line new
  turned_to lowest i new low inside denominator constant w past =
      let D = line.denominator *ℤ turn.multiplier in
      let D_is : D ≡ (new.denominator *ℤ lowest.part) = sym low.denominator ∙ ap (λ (z : ℤ). z *ℤ lowest.part) (sym denominator) in
      record {
        positive = subst (λ (z : ℤ). pos 0 <ℤ z) (sym denominator) low.positive;
        count = w.count;
        constant = scaled new.constant (turned_number turn line.constant entering.constant) D new.denominator lowest.part D_is
            (sym low.constant ∙ ap (λ (z : ℤ). z *ℤ lowest.part) (sym constant));
        others = λ c c_in apart. scaled (number_at new.numbers c)
            (turned_number turn (number_at line.numbers c) (number_at entering.numbers c)) D new.denominator lowest.part D_is
            (sym (w.done c (omega (arith, c_in, past)) ∙ after_other turn column entering line c apart));
        own = scaled (number_at new.numbers column) (turn.factor *ℤ entering.denominator) D new.denominator lowest.part D_is
            (sym (w.done column (omega (arith, inside, past)) ∙ after_own turn column entering line column refl));
      }
