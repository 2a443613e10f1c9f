-- The least common denominator of a line of fractions, place by place.
use Prim.Native.Nat.{◌∣◌}
use native.Mathlib.Nat.{one-dvd}
use borrow.Author.Count.{below_more}
use Rattle.std.proofs.Common.{◌≡◌, ℕ, suc, ◌+◌, ◌^◌, ◌<◌, ◌≤◌, sym, subst, List, length, arith}
use Rattle.std.specs.Prelude.{ℤ, pos, ◌<ℤ◌, ◌≤ℤ◌, nat_abs}
use Rattle.std.proofs.lemmas.Nat.Gcd.{dvd_trans, le_of_dvd}
use Rattle.whole_numbers.specs.Fractions.{Fraction, lcm}
use Rattle.whole_numbers.proofs.Multiples.{left_divides_lcm, right_divides_lcm}
use Rattle.design_problem.specs.Basis.{entry}
use Rattle.integer_pivots.proofs.Sizes.{read, read_number, size_most}
use Rattle.table_kernel.specs.ReadBack.{AllGoInto, IsLeastDenominator}
use Rattle.table_kernel.proofs.LeastCommon.{both_go_in}

-- the number goes into each common denominator of the line
abbrev pub GoesIntoCommon : List Fraction → ℕ → Type 0
GoesIntoCommon row part = (D : ℕ) → AllGoInto row D → part ∣ D

-- and so does its least common multiple with a denominator of the line
pub more_goes_in : (row : List Fraction) (place part : ℕ) (q : Fraction) → place < length row → q ≡ entry row place →
    GoesIntoCommon row part → GoesIntoCommon row (lcm part q.denominator)
more_goes_in row place part q place_in is goes D common =
    both_go_in part q.denominator D (goes D common)
    (subst (λ (p : Fraction). p.denominator ∣ D) (sym is) (common place place_in))

pub one_goes_in : (row : List Fraction) → GoesIntoCommon row 1
one_goes_in row D common = one-dvd D

-- where that is too large, so is each common denominator
pub none_small : (row : List Fraction) (part : ℕ) → GoesIntoCommon row part → 2 ^ 30 < part →
    (D : ℕ) → 0 < D → D ≤ 2 ^ 30 → AllGoInto row D → ⊥
none_small row part goes large D some small common =
    let most : part ≤ D = le_of_dvd some (goes D common) in
    absurd (omega (arith, most, large, small))

-- the denominators of the places up to this one go into a number that goes into each common one
pub record IsLeastTo (row : List Fraction) (last : ℕ) (common : ℤ) : Type 0 where
  pub range : (pos 0 <ℤ common) × (common ≤ℤ pos (2 ^ 30))
  pub multiple : (place : ℕ) → place < last + 1 → (entry row place).denominator ∣ nat_abs common
  pub least : GoesIntoCommon row (nat_abs common)

read_small : (z : ℤ) → pos 0 <ℤ z → z ≤ℤ pos (2 ^ 30) → read z ≡ z
read_small z high low = let small = size_most z (2 ^ 30) high low in read_number z (omega (arith, small))

-- the first place's denominator
pub first_least : (row : List Fraction) (q : Fraction) (new : ℤ) → 0 < length row → q ≡ entry row 0 →
    (pos 0 <ℤ new) × (nat_abs new ≡ lcm 1 q.denominator) × (new ≤ℤ pos (2 ^ 30)) → IsLeastTo row 0 (read new)
first_least row q new some is made =
    subst (IsLeastTo row 0) (sym (read_small new made.0 made.2))
    (record {
      range = (made.0, made.2);
      multiple = λ place most. subst (λ (p : ℕ). (entry row p).denominator ∣ nat_abs new) (let e : 0 ≡ place = omega arith in e)
          (subst (λ (p : Fraction). p.denominator ∣ nat_abs new) is (subst (λ (n : ℕ). q.denominator ∣ n) (sym made.1) (right_divides_lcm 1 q.denominator)));
      least = subst (GoesIntoCommon row) (sym made.1) (more_goes_in row 0 1 q some is (one_goes_in row));
    })

-- and one more
pub next_least : (row : List Fraction) (last : ℕ) (q : Fraction) (common new : ℤ) → last + 1 < length row → q ≡ entry row (suc last) →
    IsLeastTo row last common →
    (pos 0 <ℤ new) × (nat_abs new ≡ lcm (nat_abs common) q.denominator) × (new ≤ℤ pos (2 ^ 30)) → IsLeastTo row (last + 1) (read new)
next_least row last q common new last_in is before made =
    let grows : nat_abs common ∣ nat_abs new =
    subst (λ (n : ℕ). nat_abs common ∣ n) (sym made.1) (left_divides_lcm (nat_abs common) q.denominator) in
    let here : q.denominator ∣ nat_abs new = subst (λ (n : ℕ). q.denominator ∣ n) (sym made.1) (right_divides_lcm (nat_abs common) q.denominator) in
    subst (IsLeastTo row (last + 1)) (sym (read_small new made.0 made.2))
    (record {
      range = (made.0, made.2);
      multiple = below_more (λ place. (entry row place).denominator ∣ nat_abs new) (last + 1)
          (λ place earlier. dvd_trans (entry row place).denominator (before.multiple place earlier) grows)
          (subst (λ (place : ℕ). (entry row place).denominator ∣ nat_abs new) (let e : suc last ≡ last + 1 = omega arith in e)
          (subst (λ (p : Fraction). p.denominator ∣ nat_abs new) is here));
      least = subst (GoesIntoCommon row) (sym made.1) (more_goes_in row (suc last) (nat_abs common) q (omega (arith, last_in)) is before.least);
    })

-- all places
pub all_least : (row : List Fraction) (last : ℕ) (common : ℤ) → length row ≤ last + 1 → IsLeastTo row last common → IsLeastDenominator row common
all_least row last common past before = record {
  positive = before.range.0;
  small = before.range.1;
  common = λ place place_in. before.multiple place (omega (arith, past, place_in));
  least = before.least;
}
