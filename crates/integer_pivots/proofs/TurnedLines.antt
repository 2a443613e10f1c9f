-- A line whose numbers turn, over what they have in common then.
use Rattle.std.proofs.Common.{◌≡◌, ℕ, zero, suc, ◌+◌, ◌*◌, ◌/◌, ◌^◌, ◌<◌, ◌≤◌, refl, sym, ◌∙◌, ap, subst, [], ◌∷◌, length, arith, inl, inr, FitsSigned, w64, of_z}
use mathlib.Core.Path.{ap₂}
use Rattle.std.specs.Prelude.{ℤ, pos, negsuc, ◌-ℤ◌, ◌*ℤ◌, ◌<ℤ◌, ◌≤ℤ◌, nat_abs}
use Rattle.std.specs.Int.Signed.{mag, quot_z}
use Prim.Native.Nat.{◌∣◌}
use Rattle.std.proofs.lemmas.Bool.{cases_eq}
use Rattle.std.proofs.lemmas.Int.{fits_signed_from_abs, ints, unsigned_abs-mul}
use Rattle.std.proofs.lemmas.List.{get_or_default}
use Rattle.std.proofs.lemmas.Nat.Gcd.{dvd-zero, dvd_trans}
use Rattle.std.proofs.Math.Nat.{div-le_self, dvd-mul_left, eq-one_of_dvd-one, mul-dvd-mul_right, mul-le-mul_left, mul-le-mul_right}
use Rattle.whole_numbers.specs.Fractions.{gcd}
use Rattle.whole_numbers.specs.Lists.{number_at}
use Rattle.whole_numbers.proofs.Divisors.{gcd_is}
use Rattle.whole_numbers.proofs.Orders.{opposite_product}
use Rattle.whole_numbers.proofs.Ring.{var, num, ◌⊖◌, ◌⊗◌, ring_by, using, nothing}
use Rattle.whole_numbers.proofs.Sizes.{positive_is, size_positive}
use Rattle.integer_pivots.specs.declared.line.Line.{Line}
use Rattle.integer_pivots.specs.declared.turned_line.Turn.{Turn}
use Rattle.integer_pivots.specs.Lines.{IsInLowestTerms}
use Rattle.integer_pivots.specs.Numbers.{AllWithin, greatest_of}
use Rattle.integer_pivots.specs.Turns.{IsAtPivot, IsTurnedOver, IsTurning, MayLineTurn, turn_at, turned_number}
use Rattle.integer_pivots.proofs.LineLaws.{factor_one}
use Rattle.integer_pivots.proofs.Quotients.{bits_of}
use Rattle.integer_pivots.proofs.Sizes.{difference_small, number_within, positive_size, product_read, product_size, read, read_known, read_number}
use Rattle.integer_pivots.proofs.TurnLaws.{greatest_within, product_of_read, sizes_kept, turn_level}
use Rattle.integer_pivots.proofs.ShareLaws.{times_positive}

-- what stands over a part stands for the same
pub scaled : (x X D d k : ℤ) → D ≡ (d *ℤ k) → X ≡ (x *ℤ k) → (x *ℤ D) ≡ (X *ℤ d)
scaled x X D d k D_is X_is =
    ring_by (x ∷ X ∷ D ∷ d ∷ k ∷ []) (var 0 ⊗ var 2) (var 1 ⊗ var 3)
    (using (var 0) (var 2) (var 3 ⊗ var 4) D_is (using (num (negsuc 0) ⊗ var 3) (var 1) (var 0 ⊗ var 4) X_is nothing)) refl

-- what the denominator, the constant and all turned numbers have in common, that at the pivot's column too
pub record IsTurnPart (turn : Turn) (entering old : Line) (part : ℤ) : Type 0 where
  pub positive : pos 0 <ℤ part
  pub denominator : nat_abs part ∣ nat_abs old.denominator
  pub constant : nat_abs part ∣ nat_abs old.constant
  pub own : nat_abs part ∣ nat_abs (turn.factor *ℤ entering.denominator)
  pub greatest : (d : ℕ) → d ∣ nat_abs old.denominator → d ∣ nat_abs old.constant → d ∣ nat_abs (turn.factor *ℤ entering.denominator) →
      ((c : ℕ) → c < length old.numbers → d ∣ nat_abs (turned_number turn (number_at old.numbers c) (number_at entering.numbers c))) → d ∣ nat_abs part

-- found step by step
pub turn_part : (turn : Turn) (entering old : Line) (above all part : ℤ) →
    above ≡ pos (gcd (nat_abs old.constant) (nat_abs old.denominator)) →
    all ≡ pos (gcd (nat_abs (turn.factor *ℤ entering.denominator)) (nat_abs above)) → pos 0 <ℤ part → nat_abs part ∣ nat_abs all →
    ((d : ℕ) → d ∣ nat_abs all →
    ((c : ℕ) → c < length old.numbers → d ∣ nat_abs (turned_number turn (number_at old.numbers c) (number_at entering.numbers c))) → d ∣ nat_abs part) →
    IsTurnPart turn entering old part
turn_part turn entering old above all part above_is all_is positive divides greatest =
    let inner = gcd_is (nat_abs old.constant) (nat_abs old.denominator) in
    let outer = gcd_is (nat_abs (turn.factor *ℤ entering.denominator)) (nat_abs above) in
    let goes = subst (λ (z : ℤ). nat_abs part ∣ nat_abs z) all_is divides in
    let too = subst (λ (z : ℤ). nat_abs part ∣ nat_abs z) above_is (dvd_trans _ goes outer.1) in
    record {
      positive = positive;
      denominator = dvd_trans _ too inner.1;
      constant = dvd_trans _ too inner.0;
      own = dvd_trans _ goes outer.0;
      greatest = λ d below over own turned.
          greatest d (subst (λ (z : ℤ). d ∣ nat_abs z) (sym all_is)
          (outer.2 d own (subst (λ (z : ℤ). d ∣ nat_abs z) (sym above_is) (inner.2 d over below)))) turned;
    }

-- what goes into a number over a part goes, times the part, into the number
part_divides : (d : ℕ) (old new part : ℤ) → (new *ℤ part) ≡ old → d ∣ nat_abs new → (d * nat_abs part) ∣ nat_abs old
part_divides d old new part is divides =
    subst (λ (n : ℕ). (d * nat_abs part) ∣ n) (sym (unsigned_abs-mul new part) ∙ ap nat_abs is) (mul-dvd-mul_right d divides (nat_abs part))

-- over all that is in common the turned line is in lowest terms
pub lowest_over_turn : (turn : Turn) (column : ℕ) (entering old new : Line) (part : ℤ) → IsTurning turn column entering old →
    IsTurnPart turn entering old part → IsTurnedOver turn column entering old new part → IsInLowestTerms new
lowest_over_turn turn column entering old new part turning common t d below above all =
    factor_one d (nat_abs part) (size_positive part common.positive)
    (common.greatest (d * nat_abs part)
    (part_divides d old.denominator new.denominator part t.denominator below)
    (part_divides d old.constant new.constant part t.constant above)
    (part_divides d (turn.factor *ℤ entering.denominator) (number_at new.numbers column) part t.own
    (all column (omega (arith, turning.inside, t.count))))
    (λ c c_in. elim (cases_eq c column) [
      | inl same ↦
          subst (λ (k : ℕ). (d * nat_abs part) ∣ nat_abs (turned_number turn (number_at old.numbers k) (number_at entering.numbers k))) (sym same)
          (subst (λ (z : ℤ). (d * nat_abs part) ∣ nat_abs z) (sym turning.level) (dvd-zero (d * nat_abs part)))
      | inr other ↦
          part_divides d (turned_number turn (number_at old.numbers c) (number_at entering.numbers c)) (number_at new.numbers c) part
          (t.others c c_in other) (all c (omega (arith, c_in, t.count)))
    ]))

-- the numbers of a line that is turning are small, and so are the multiplier and the factor
module _ (turn : Turn) (column : ℕ) (entering old : Line) (t : IsTurning turn column entering old) where
  pub turning_factor : nat_abs turn.factor ≤ 2 ^ 30
  turning_factor =
      let more : nat_abs turn.factor * 1 ≤ nat_abs turn.factor * nat_abs entering.denominator =
      mul-le-mul_left (nat_abs turn.factor) (size_positive entering.denominator t.across.positive) in
      let own = t.small.own in
      omega (arith, more, own)

  pub turning_small : (c : ℕ) → nat_abs turn.multiplier * nat_abs (number_at old.numbers c) + nat_abs turn.factor * nat_abs (number_at entering.numbers c) ≤ 2 ^
      30
  turning_small c =
      sizes_kept (nat_abs turn.multiplier) (nat_abs turn.factor) (nat_abs (number_at old.numbers c)) (greatest_of old.numbers)
      (nat_abs (number_at entering.numbers c)) (greatest_of entering.numbers)
      (number_within (greatest_of old.numbers) old.numbers c (greatest_within old.numbers))
      (number_within (greatest_of entering.numbers) entering.numbers c (greatest_within entering.numbers)) t.small.numbers

  pub turning_within : AllWithin (2 ^ 61) old.numbers
  turning_within i e i_in =
      let most = greatest_within old.numbers i e i_in in
      let more : 1 * greatest_of old.numbers ≤ nat_abs turn.multiplier * greatest_of old.numbers =
      mul-le-mul_right (greatest_of old.numbers) (size_positive turn.multiplier t.multiplier) in
      let small = t.small.numbers in
      omega (arith, most, more, small)

  -- over 1 it isn't multiplied
  pub turning_once : old.denominator ≡ pos 1 → turn.multiplier ≡ pos 1
  turning_once one =
      positive_is turn.multiplier t.multiplier
      ∙ ap pos (eq-one_of_dvd-one (subst (λ (z : ℤ). nat_abs turn.multiplier ∣ nat_abs z) one t.multiplied))

  -- numbers over the part are within what they are within before, over it
  pub turned_within : (new : Line) (part : ℤ) (a b most bound : ℕ) → IsTurnedOver turn column entering old new part →
      AllWithin a old.numbers → AllWithin b entering.numbers → nat_abs turn.multiplier * a + nat_abs turn.factor * b ≤ most →
      nat_abs turn.factor * nat_abs entering.denominator ≤ most → ((x : ℕ) → x * nat_abs part ≤ most → x ≤ bound) → AllWithin bound new.numbers
  turned_within new part a b most bound over old_in entering_in small own least i e i_in =
      subst (λ (z : ℤ). nat_abs z ≤ bound) (sym (get_or_default new.numbers i e (pos 0) i_in))
      (least (nat_abs (number_at new.numbers i)) (elim (cases_eq i column) [
        | inl same ↦ omega (
          arith,
          ap (λ (k : ℕ). nat_abs (number_at new.numbers k) * nat_abs part) same,
          unsigned_abs-mul (number_at new.numbers column) part,
          ap nat_abs over.own,
          unsigned_abs-mul turn.factor entering.denominator,
          own,
        )
        | inr other ↦ omega (
          arith,
          unsigned_abs-mul (number_at new.numbers i) part,
          ap nat_abs (over.others i (omega (arith, i_in, over.count)) other),
          difference_small (nat_abs turn.multiplier * a) (nat_abs turn.factor * b)
              (turn.multiplier *ℤ number_at old.numbers i) (turn.factor *ℤ number_at entering.numbers i)
              (product_size turn.multiplier (number_at old.numbers i) a (number_within a old.numbers i old_in))
              (product_size turn.factor (number_at entering.numbers i) b (number_within b entering.numbers i entering_in)),
          small,
        )
      ]))

  -- the number at the pivot's column is computed as it is
  denominator_small : nat_abs entering.denominator ≤ 2 ^ 30
  denominator_small = positive_size entering.denominator (2 ^ 30) (t.across.positive, t.across.denominator)

  pub own_fits : FitsSigned w64 (read turn.factor *ℤ read entering.denominator)
  own_fits = product_of_read turn.factor entering.denominator turning_factor denominator_small

  pub own_read : read (read turn.factor *ℤ read entering.denominator) ≡ (turn.factor *ℤ entering.denominator)
  own_read = product_read turn.factor entering.denominator turning_factor denominator_small

  pub own_small : nat_abs (read (read turn.factor *ℤ read entering.denominator)) ≤ 2 ^ 62
  own_small =
      let own = t.small.own in
      omega (arith, ap nat_abs own_read, unsigned_abs-mul turn.factor entering.denominator, own)

  pub turning_denominator : nat_abs old.denominator ≤ 2 ^ 30
  turning_denominator = positive_size old.denominator (2 ^ 30) (t.positive, t.denominator)

  pub denominator_read : read old.denominator ≡ old.denominator
  denominator_read = read_number old.denominator (omega (arith, turning_denominator))

  pub constant_read : read old.constant ≡ old.constant
  constant_read = let small = t.constant in read_number old.constant (omega (arith, small))

-- a number that isn't multiplied
pub once_turned : (t : Turn) (n e : ℤ) → t.multiplier ≡ pos 1 → (n -ℤ (t.factor *ℤ e)) ≡ turned_number t n e
once_turned t n e one =
    ring_by (t.multiplier ∷ t.factor ∷ n ∷ e ∷ []) (var 2 ⊖ (var 1 ⊗ var 3)) ((var 0 ⊗ var 2) ⊖ (var 1 ⊗ var 3))
    (using (num (negsuc 0) ⊗ var 2) (var 0) (num (pos 1)) one nothing) refl

-- a turn that levels a number makes 0 of it
levelled : (m f n p : ℤ) → (m *ℤ n) ≡ (f *ℤ p) → ((m *ℤ n) -ℤ (f *ℤ p)) ≡ pos 0
levelled m f n p is =
    ring_by (m ∷ f ∷ n ∷ p ∷ []) ((var 0 ⊗ var 2) ⊖ (var 1 ⊗ var 3)) (num (pos 0)) (using (num (pos 1)) (var 0 ⊗ var 2) (var 1 ⊗ var 3) is nothing) refl

-- a factor of a positive product with a positive number
pub factor_high : (x p : ℤ) → pos 0 <ℤ p → pos 0 <ℤ (x *ℤ p) → pos 0 <ℤ x
factor_high (pos (suc n)) p high product = omega (arith, ints)
factor_high (pos zero) p high product =
    let low = opposite_product (pos 0) p (omega (arith, ints)) (omega (arith, ints, high)) in absurd (omega (arith, ints, low, product))
factor_high (negsuc n) p high product =
    let low = opposite_product (negsuc n) p (omega (arith, ints)) (omega (arith, ints, high)) in absurd (omega (arith, ints, low, product))

-- a size over a positive number
size_over : (a p : ℤ) → pos 0 ≤ℤ a → pos 0 <ℤ p → quot_z a p ≡ pos (nat_abs a / nat_abs p)
size_over (pos a) (pos p) a_high p_high = refl
size_over (negsuc a) p a_high p_high = absurd (omega (arith, ints, a_high))
size_over (pos a) (negsuc p) a_high p_high = absurd (omega (arith, ints, p_high))

-- and as 64 bits hold it
module _ (a p : ℤ) (a_high : pos 0 ≤ℤ a) (p_high : pos 0 <ℤ p) (a_fits : mag a < 2 ^ 63) (p_fits : mag p < 2 ^ 63) where
  over_is : quot_z (read a) (read p) ≡ pos (nat_abs a / nat_abs p)
  over_is = ap₂ quot_z (read_known a a_fits) (read_known p p_fits) ∙ size_over a p a_high p_high

  over_less : nat_abs a / nat_abs p < 2 ^ 63
  over_less = let less = div-le_self (nat_abs a) (nat_abs p) in omega (arith, less, fitting a a_high a_fits)
    where
      fitting : (z : ℤ) → pos 0 ≤ℤ z → mag z < 2 ^ 63 → nat_abs z < 2 ^ 63
      fitting (pos n) high fits = fits
      fitting (negsuc n) high fits = absurd (omega (arith, ints, high))

  pub over_read : read (quot_z (read a) (read p)) ≡ pos (nat_abs a / nat_abs p)
  over_read = ap read over_is ∙ read_number (pos (nat_abs a / nat_abs p)) over_less

  pub over_fits : FitsSigned w64 (quot_z (read a) (read p))
  over_fits = subst (FitsSigned w64) (sym over_is) (fits_signed_from_abs w64 (pos (nat_abs a / nat_abs p)) over_less)

-- the bits of a positive number
pub positive_bits : (p : ℤ) → pos 0 <ℤ p → FitsSigned w64 p → 0 < of_z w64 p
positive_bits p high fits =
    elim (cases_eq (of_z w64 p) 0) [
      | inl none ↦ absurd (let is = bits_of p 0 fits none in omega (arith, ints, high, is))
      | inr some ↦ omega (arith, some)
    ]

size_below : (z : ℤ) (n : ℕ) → nat_abs z ≤ n → z ≤ℤ pos n
size_below z n small = omega (arith, ints, small)

-- a line whose constant and denominator have turned is turning
pub begins_turning : (turn : Turn) (column : ℕ) (entering old : Line) (D C : ℤ) → IsAtPivot column entering old →
    turn ≡ turn_at entering column old → MayLineTurn turn old entering → pos 0 <ℤ turn.multiplier → D ≡ (old.denominator *ℤ turn.multiplier) →
    C ≡ turned_number turn old.constant entering.constant →
    IsTurning turn column entering (record { denominator = D; constant = C; numbers = old.numbers; reach = old.reach })
begins_turning turn column entering old D C pivot is may positive D_is C_is = record {
  across = pivot.across;
  positive = subst (λ (z : ℤ). pos 0 <ℤ z) (sym D_is) (times_positive old.denominator turn.multiplier pivot.turning.positive positive);
  denominator = size_below D (2 ^ 30) (let small = may.denominator in omega (arith, ap nat_abs D_is, unsigned_abs-mul old.denominator turn.multiplier, small));
  constant = let small = may.constant in omega (arith, ap nat_abs C_is, small);
  long = pivot.long;
  inside = pivot.inside;
  level = subst (λ (t : Turn). turned_number t (number_at old.numbers column) (number_at entering.numbers column) ≡ pos 0) (sym is)
      (levelled (turn_at entering column old).multiplier (turn_at entering column old).factor (number_at old.numbers column) (number_at entering.numbers column)
      (turn_level (number_at old.numbers column) (number_at entering.numbers column) pivot.pivot));
  small = record { numbers = may.small.numbers; own = may.small.own };
  multiplier = positive;
  multiplied = subst (λ (n : ℕ). nat_abs turn.multiplier ∣ n) (sym (ap nat_abs D_is ∙ unsigned_abs-mul old.denominator turn.multiplier))
      (dvd-mul_left (nat_abs turn.multiplier) (nat_abs old.denominator));
}
