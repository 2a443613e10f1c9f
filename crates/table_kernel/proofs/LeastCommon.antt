-- The least common multiple of the denominators of lines, line by line.
use Prim.Native.Nat.{◌∣◌}
use native.Mathlib.Nat.{div-mul_cancel, dvd_of_mul-dvd-mul_right, mul-dvd-mul_right, mul_assoc, mul_comm, one-dvd, pos_of_dvd_of_pos}
use Rattle.std.proofs.Common.{◌≡◌, ℕ, zero, suc, ◌+◌, ◌*◌, ◌/◌, ◌^◌, ◌<◌, ◌≤◌, sym, ◌∙◌, ap, subst, List, take, length, arith}
use Rattle.std.specs.Prelude.{ℤ, pos, ◌<ℤ◌, ◌≤ℤ◌, nat_abs, slice_index_or, All}
use Rattle.std.proofs.lemmas.Int.{ints}
use Rattle.std.proofs.lemmas.List.{get_or_default, take_all}
use Rattle.std.proofs.lemmas.List.Elements.{All-more, All-weaker}
use Rattle.std.proofs.lemmas.Nat.Gcd.{dvd_trans, dvd-zero, le_of_dvd}
use Rattle.whole_numbers.specs.Fractions.{gcd, lcm}
use Rattle.whole_numbers.proofs.Divisors.{divides_other, gcd_is, gcd_positive, quotient_positive}
use Rattle.whole_numbers.proofs.FractionLaws.{reduced_lowest}
use Rattle.whole_numbers.proofs.Multiples.{left_divides_lcm, right_divides_lcm}
use Rattle.integer_pivots.specs.declared.line.Line.{Line}
use Rattle.integer_pivots.specs.Lines.{IsLine, no_line}
use Rattle.integer_pivots.proofs.Sizes.{read, read_number, size_most}
use Rattle.table_kernel.specs.ReadBack.{IsLeastCommon}

-- a common multiple of two numbers is a multiple of the least one
lcm_divides : (a b c : ℕ) → 0 < a → 0 < b → 0 < c → a ∣ c → b ∣ c → lcm a b ∣ c
lcm_divides a b c a_some b_some c_some left right =
    let g = gcd a b in
    let both = gcd_is a b in
    let times = c / b in
    let g_some : 0 < g = gcd_positive a b b_some in
    let whole : times * b ≡ c = div-mul_cancel b right in
    let parts : c ≡ (b / g * times) * g =
    sym whole ∙ ap (λ (n : ℕ). times * n) (sym (div-mul_cancel g both.1)) ∙ sym (mul_assoc times (b / g) g)
    ∙ ap (λ (n : ℕ). n * g) (mul_comm times (b / g)) in
    let scaled : (a / g) * g ∣ (b / g * times) * g =
    subst (λ (n : ℕ). n ∣ (b / g * times) * g) (sym (div-mul_cancel g both.0)) (subst (λ (n : ℕ). a ∣ n) parts left) in
    let lowest = reduced_lowest (pos a) b b_some in
    let share : a / g ∣ times =
    divides_other (a / g) (b / g) times lowest.lowest (dvd_of_mul-dvd-mul_right (a / g) g_some scaled) (quotient_positive c b c_some right) in
    subst (λ (n : ℕ). lcm a b ∣ n) whole (mul-dvd-mul_right (a / g) share b)

-- what both numbers go into their least common multiple goes into
pub both_go_in : (a b c : ℕ) → a ∣ c → b ∣ c → lcm a b ∣ c
both_go_in a b zero left right = dvd-zero (lcm a b)
both_go_in a b (suc c) left right =
    lcm_divides a b (suc c) (pos_of_dvd_of_pos left (omega arith)) (pos_of_dvd_of_pos right (omega arith)) (omega arith) left right

-- the line's denominator goes into this number
abbrev pub GoesInto : ℕ → Line → Type 0
GoesInto D line = nat_abs line.denominator ∣ D

-- a common multiple of the denominators of the lines before an index, which goes into each of those of all lines
pub record IsLeastTo (lines : List Line) (i : ℕ) (common : ℤ) : Type 0 where
  pub range : (pos 0 <ℤ common) × (common ≤ℤ pos (2 ^ 30))
  pub multiple : All (GoesInto (nat_abs common)) (take i lines)
  pub least : (D : ℕ) → All (GoesInto D) lines → nat_abs common ∣ D

-- 1 is one of no line
pub none_yet : (lines : List Line) → IsLeastTo lines 0 (pos 1)
none_yet lines = record {
  range = (omega (arith, ints), omega (arith, ints));
  multiple = λ v d v_in. absurd (omega (arith, v_in));
  least = λ D all. one-dvd D;
}

-- the line's denominator, as it is read
pub line_is_read : (lines : List Line) (i : ℕ) (line : Line) → All IsLine lines → i < length lines →
    line ≡ slice_index_or lines i line → read line.denominator ≡ (slice_index_or lines i no_line).denominator
line_is_read lines i line all i_in is =
    let same : line ≡ slice_index_or lines i no_line = is ∙ get_or_default lines i line no_line i_in in
    let l = all i no_line i_in in
    let d = (slice_index_or lines i no_line).denominator in
    let small : nat_abs d ≤ 2 ^ 30 = size_most d (2 ^ 30) l.positive l.denominator in
    ap (λ (m : Line). read m.denominator) same ∙ read_number d (omega (arith, small))

module _ (lines : List Line) (i : ℕ) (common d : ℤ) (i_in : i < length lines) (is : read d ≡ (slice_index_or lines i no_line).denominator)
    (before : IsLeastTo lines i common) where
  abbrev both : ℕ
  both = lcm (nat_abs common) (nat_abs (read d))

  -- the least multiple of both goes into each of those of all lines
  both_divide : (D : ℕ) → All (GoesInto D) lines → both ∣ D
  both_divide D all =
      both_go_in (nat_abs common) (nat_abs (read d)) D (before.least D all) (subst (λ (z : ℤ). nat_abs z ∣ D) (sym is) (all i no_line i_in))

  -- so none of at most 2^30 is left where it is too large
  pub too_large : 2 ^ 30 < both → (D : ℕ) → 0 < D → D ≤ 2 ^ 30 → All (GoesInto D) lines → ⊥
  too_large large D some small all = omega (arith, large, small, le_of_dvd some (both_divide D all))

  -- else it is one of one line more
  pub next_both : (new : ℤ) → (pos 0 <ℤ new) × (nat_abs new ≡ both) × (new ≤ℤ pos (2 ^ 30)) → IsLeastTo lines (i + 1) (read new)
  next_both new made =
      let small : nat_abs new ≤ 2 ^ 30 = size_most new (2 ^ 30) made.0 made.2 in
      let here : GoesInto both (slice_index_or lines i no_line) =
      subst (λ (z : ℤ). nat_abs z ∣ both) is (right_divides_lcm (nat_abs common) (nat_abs (read d))) in
      let earlier : All (GoesInto both) (take i lines) =
      All-weaker (GoesInto (nat_abs common)) (GoesInto both)
      (λ line divides. dvd_trans (nat_abs line.denominator) divides (left_divides_lcm (nat_abs common) (nat_abs (read d))))
      (take i lines) before.multiple in
      subst (IsLeastTo lines (i + 1)) (sym (read_number new (omega (arith, small))))
      (record {
        range = (made.0, made.2);
        multiple = subst (λ (n : ℕ). All (GoesInto n) (take (i + 1) lines)) (sym made.1) (All-more (GoesInto both) lines i no_line i_in earlier here);
        least = λ D all. subst (λ (n : ℕ). n ∣ D) (sym made.1) (both_divide D all);
      })

-- all lines are before the end
pub least_common : (lines : List Line) (i : ℕ) (common : ℤ) → length lines ≤ i → IsLeastTo lines i common → IsLeastCommon lines common
least_common lines i common past before = record {
  positive = before.range.0;
  small = before.range.1;
  multiple = subst (All (GoesInto (nat_abs common))) (take_all i lines past) before.multiple;
  least = before.least;
}
