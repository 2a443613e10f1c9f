-- What the numbers of a line have in common, and lines in lowest terms.
use Rattle.std.proofs.Common.{◌≡◌, ℕ, ◌+◌, ◌*◌, ◌<◌, ◌≤◌, refl, sym, ◌∙◌, ap, subst, length, arith, inl, inr}
use Rattle.std.specs.Prelude.{ℤ, pos, ◌*ℤ◌, ◌<ℤ◌, nat_abs}
use Rattle.std.proofs.lemmas.Bool.{cases_lt}
use Rattle.std.proofs.lemmas.Int.{ints, unsigned_abs-mul}
use Rattle.std.proofs.lemmas.List.{get_or_default}
use Rattle.std.proofs.lemmas.Nat.Gcd.{dvd-zero, dvd_trans}
use Rattle.std.proofs.Math.Nat.{dvd_of_mul-dvd-mul_right, eq-one_of_dvd-one, mul-dvd-mul_right, mul-le-mul_left, one-dvd}
use Prim.Native.Nat.{◌∣◌}
use native.Mathlib.Nat.{one-mul}
use Rattle.whole_numbers.specs.Fractions.{gcd}
use Rattle.whole_numbers.specs.Lists.{number_at}
use Rattle.whole_numbers.proofs.Divisors.{gcd_is}
use Rattle.whole_numbers.proofs.Laws.{times_one}
use Rattle.integer_pivots.specs.declared.line.Line.{Line}
use Rattle.integer_pivots.specs.Lines.{IsInLowestTerms, IsReduced}
use Rattle.integer_pivots.specs.Numbers.{AllWithin}
use Rattle.integer_pivots.proofs.Quotients.{common_positive}
use Rattle.integer_pivots.proofs.Sizes.{number_within}
use Rattle.integer_pivots.proofs.WrittenPlaces.{all_more}

-- what the denominator, the constant and the numbers before a column have in common
pub record IsCommonPart (line : Line) (count : ℕ) (part : ℤ) : Type 0 where
  pub positive : pos 0 <ℤ part
  pub denominator : nat_abs part ∣ nat_abs line.denominator
  pub constant : nat_abs part ∣ nat_abs line.constant
  pub numbers : (c : ℕ) → c < count → nat_abs part ∣ nat_abs (number_at line.numbers c)
  pub greatest : (d : ℕ) → d ∣ nat_abs line.denominator → d ∣ nat_abs line.constant →
      ((c : ℕ) → c < count → d ∣ nat_abs (number_at line.numbers c)) → d ∣ nat_abs part

-- before the first column
pub common_first : (line : Line) (part : ℤ) → pos 0 <ℤ line.denominator →
    part ≡ pos (gcd (nat_abs line.constant) (nat_abs line.denominator)) → IsCommonPart line 0 part
common_first line part positive is =
    let g = gcd_is (nat_abs line.constant) (nat_abs line.denominator) in
    subst (IsCommonPart line 0) (sym is) record {
      positive = common_positive line.constant line.denominator positive;
      denominator = g.1;
      constant = g.0;
      numbers = λ c c_in. absurd (omega (arith, c_in));
      greatest = λ d below above all. g.2 d above below;
    }

-- with one more
pub common_more : (line : Line) (i : ℕ) (part new : ℤ) → IsCommonPart line i part →
    new ≡ pos (gcd (nat_abs (number_at line.numbers i)) (nat_abs part)) → IsCommonPart line (i + 1) new
common_more line i part new common is =
    let g = gcd_is (nat_abs (number_at line.numbers i)) (nat_abs part) in
    subst (IsCommonPart line (i + 1)) (sym is) record {
      positive = common_positive (number_at line.numbers i) part common.positive;
      denominator = dvd_trans _ g.1 common.denominator;
      constant = dvd_trans _ g.1 common.constant;
      numbers = all_more (λ c. gcd (nat_abs (number_at line.numbers i)) (nat_abs part) ∣ nat_abs (number_at line.numbers c)) i
          (λ c c_in. dvd_trans _ g.1 (common.numbers c c_in)) g.0;
      greatest = λ d below above all. g.2 d (all i (omega arith)) (common.greatest d below above (λ c c_in. all c (omega (arith, c_in))));
    }

-- 1 stays
pub common_rest : (line : Line) (i : ℕ) (part : ℤ) → IsCommonPart line i part → part ≡ pos 1 → i ≤ length line.numbers →
    IsCommonPart line (length line.numbers) (pos 1)
common_rest line i part common one until = record {
  positive = omega (arith, ints);
  denominator = one-dvd (nat_abs line.denominator);
  constant = one-dvd (nat_abs line.constant);
  numbers = λ c c_in. one-dvd (nat_abs (number_at line.numbers c));
  greatest = λ d below above all. subst (λ (z : ℤ). d ∣ nat_abs z) one (common.greatest d below above (λ c c_in. all c (omega (arith, c_in, until))));
}

-- a line over 1
pub reduced_by_one : (line : Line) → IsReduced line line 1
reduced_by_one line = record {
  positive = omega arith;
  denominator = sym (times_one line.denominator);
  constant = sym (times_one line.constant);
  count = refl;
  numbers = λ c c_in. sym (times_one (number_at line.numbers c));
}

-- what goes into a number over another goes, times that, into the number
scaled_divides : (d : ℕ) (old new : ℤ) (part : ℕ) → old ≡ (new *ℤ pos part) → d ∣ nat_abs new → (d * part) ∣ nat_abs old
scaled_divides d old new part is divides =
    subst (λ (n : ℕ). (d * part) ∣ n) (sym (ap nat_abs is ∙ unsigned_abs-mul new (pos part))) (mul-dvd-mul_right d divides part)

-- what goes into a number as often as 1 does is 1
pub factor_one : (d part : ℕ) → 0 < part → (d * part) ∣ part → d ≡ 1
factor_one d part positive divides =
    eq-one_of_dvd-one (dvd_of_mul-dvd-mul_right d positive (subst (λ (n : ℕ). (d * part) ∣ n) (sym (one-mul part)) divides))

-- over what it has in common a line is in lowest terms
pub lowest_over_common : (old new : Line) (part : ℤ) → IsCommonPart old (length old.numbers) part →
    IsReduced old new (nat_abs part) → IsInLowestTerms new
lowest_over_common old new part common r d below above all =
    factor_one d (nat_abs part) r.positive
    (common.greatest (d * nat_abs part)
    (scaled_divides d old.denominator new.denominator (nat_abs part) r.denominator below)
    (scaled_divides d old.constant new.constant (nat_abs part) r.constant above)
    (λ c c_in. scaled_divides d (number_at old.numbers c) (number_at new.numbers c) (nat_abs part) (r.numbers c c_in)
    (all c (omega (arith, c_in, r.count)))))

-- no number is greater than before
pub reduced_within : (old new : Line) (part most : ℕ) → IsReduced old new part → AllWithin most old.numbers → AllWithin most new.numbers
reduced_within old new part most r within i e i_in =
    subst (λ (z : ℤ). nat_abs z ≤ most) (sym (get_or_default new.numbers i e (pos 0) i_in))
    (smaller (number_at old.numbers i) (number_at new.numbers i) part r.positive (r.numbers i (omega (arith, i_in, r.count)))
    (number_within most old.numbers i within))
  where
    smaller : (y z : ℤ) (k : ℕ) → 0 < k → y ≡ (z *ℤ pos k) → nat_abs y ≤ most → nat_abs z ≤ most
    smaller y z k positive is small =
        let more : nat_abs z * 1 ≤ nat_abs z * k = mul-le-mul_left (nat_abs z) positive in
        omega (arith, ap nat_abs is, unsigned_abs-mul z (pos k), more, small)

-- nothing changes where the numbers up to a column are 0
pub common_passed : (line : Line) (i j : ℕ) (part : ℤ) → IsCommonPart line i part → i ≤ j →
    ((c : ℕ) → i ≤ c → c < j → number_at line.numbers c ≡ pos 0) → IsCommonPart line j part
common_passed line i j part common behind passed = record {
  positive = common.positive;
  denominator = common.denominator;
  constant = common.constant;
  numbers =
      λ c c_in. elim (cases_lt c i) [
        | inl before ↦ common.numbers c before
        | inr here ↦ subst (λ (z : ℤ). nat_abs part ∣ nat_abs z) (sym (passed c here c_in)) (dvd-zero (nat_abs part))
      ];
  greatest = λ d below above all. common.greatest d below above (λ c c_in. all c (omega (arith, c_in, behind)));
}
