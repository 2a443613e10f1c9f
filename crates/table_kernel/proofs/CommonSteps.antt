-- The common multiple of the denominators after a pivot, line by line.
use Prim.Native.Nat.{◌∣◌}
use native.Mathlib.Nat.{div-mul_cancel, mul-one}
use Rattle.std.proofs.Common.{◌≡◌, ℕ, zero, suc, ◌+◌, ◌*◌, ◌/◌, ◌^◌, ◌<◌, ◌≤◌, refl, sym, ◌∙◌, ap, subst, List, [], ◌∷◌, drop, length, arith}
use Rattle.std.specs.Prelude.{ℤ, pos, ◌<ℤ◌, ◌≤ℤ◌, nat_abs, slice_index_or, All, Option, None, MatchOption}
use Rattle.std.proofs.lemmas.List.{at_drop_all}
use Rattle.std.proofs.lemmas.List.Elements.{All-drop, All-tail}
use Rattle.std.proofs.lemmas.Nat.Gcd.{dvd_refl, dvd_trans, le_of_dvd, same_from_IsGcd}
use Rattle.whole_numbers.specs.Fractions.{gcd, lcm}
use Rattle.whole_numbers.specs.Lists.{number_at}
use Rattle.whole_numbers.proofs.Divisors.{gcd_is}
use Rattle.whole_numbers.proofs.FractionLaws.{product_positive}
use Rattle.whole_numbers.proofs.Multiples.{lcm_positive, left_divides_lcm, right_divides_lcm}
use Rattle.whole_numbers.proofs.Sizes.{size_positive}
use Rattle.integer_pivots.specs.declared.line.Line.{Line}
use Rattle.integer_pivots.specs.Lines.{IsLine, no_line}
use Rattle.integer_pivots.specs.Turns.{common_after, denominator_after, turn_by}
use Rattle.integer_pivots.proofs.Sizes.{read, read_number, size_most}
use Rattle.integer_pivots.proofs.TurnLaws.{turn_positive}

-- a multiplier is positive
pub multiplier_some : (number pivot : ℤ) → pos 0 <ℤ pivot → 0 < nat_abs (turn_by number pivot).multiplier
multiplier_some number pivot positive = size_positive (turn_by number pivot).multiplier (turn_positive number pivot positive)

-- and so is a denominator after the pivot
pub after_some : (entering line : Line) (column : ℕ) → IsLine line → pos 0 <ℤ number_at entering.numbers column → 0 < denominator_after entering column line
after_some entering line column l pivot =
    product_positive (nat_abs line.denominator) _ (size_positive line.denominator l.positive)
    (multiplier_some (number_at line.numbers column) (number_at entering.numbers column) pivot)

-- a common multiple isn't less than either
pub lcm_at_least : (a b : ℕ) → 0 < a → 0 < b → a ≤ lcm a b
lcm_at_least a b a_some b_some = le_of_dvd (lcm_positive a b a_some b_some) (left_divides_lcm a b)

-- it is the one number where the other one goes into it
pub lcm_same : (a b : ℕ) → b ∣ a → lcm a b ≡ a
lcm_same a b divides =
    let same : gcd a b ≡ b = same_from_IsGcd a b (gcd a b) b (gcd_is a b) (divides, dvd_refl b, λ d left right. right) in
    ap (λ (g : ℕ). (a / g) * b) same ∙ div-mul_cancel b divides

-- the common multiple of more lines isn't less
pub common_grows : (entering : Line) (column : ℕ) (lines : List Line) (common : ℕ) → 0 < common →
    All (λ (line : Line). 0 < denominator_after entering column line) lines → common ≤ common_after entering column lines common
common_grows entering column [] common some all = omega arith
common_grows entering column (line ∷ lines) common some all =
    let b = denominator_after entering column line in
    let b_some : 0 < b = all 0 no_line (omega arith) in
    let first : common ≤ lcm common b = lcm_at_least common b some b_some in
    let rest : lcm common b ≤ common_after entering column lines (lcm common b) =
    common_grows entering column lines (lcm common b) (lcm_positive common b some b_some)
    (All-tail (λ (l : Line). 0 < denominator_after entering column l) line lines all) in
    omega (arith, first, rest)

pub common_divides : (entering : Line) (column : ℕ) (lines : List Line) (common : ℕ) → common ∣ common_after entering column lines common
common_divides entering column [] common = dvd_refl common
common_divides entering column (line ∷ lines) common =
    let b = denominator_after entering column line in
    dvd_trans common (left_divides_lcm common b) (common_divides entering column lines (lcm common b))

-- each denominator after the pivot goes into it
pub each_goes_in : (entering : Line) (column : ℕ) (lines : List Line) (common v : ℕ) → v < length lines →
    denominator_after entering column (slice_index_or lines v no_line) ∣ common_after entering column lines common
each_goes_in entering column [] common v v_in = absurd (omega arith)
each_goes_in entering column (line ∷ lines) common zero v_in =
    let b = denominator_after entering column line in
    dvd_trans b (right_divides_lcm common b) (common_divides entering column lines (lcm common b))
each_goes_in entering column (line ∷ lines) common (suc v) v_in =
    each_goes_in entering column lines (lcm common (denominator_after entering column line)) v (omega (arith, v_in))

-- one line after the other
step_at : (entering : Line) (column : ℕ) (lines : List Line) (i common : ℕ) → i < length lines →
    common_after entering column (drop i lines) common
    ≡ common_after entering column (drop (suc i) lines) (lcm common (denominator_after entering column (slice_index_or lines i no_line)))
step_at entering column [] i common i_in = absurd (omega arith)
step_at entering column (line ∷ lines) zero common i_in = refl
step_at entering column (line ∷ lines) (suc i) common i_in = step_at entering column lines i common (omega (arith, i_in))

pub common_step : (entering : Line) (column : ℕ) (lines : List Line) (i common : ℕ) → i < length lines →
    common_after entering column (drop i lines) common
    ≡ common_after entering column (drop (i + 1) lines) (lcm common (denominator_after entering column (slice_index_or lines i no_line)))
common_step entering column lines i common i_in =
    let next : suc i ≡ i + 1 = omega arith in
    subst (λ (n : ℕ). common_after entering column (drop i lines) common ≡
    common_after entering column (drop n lines) (lcm common (denominator_after entering column (slice_index_or lines i no_line))))
    next (step_at entering column lines i common i_in)

-- a common multiple that is too large on the way is so at the end
pub too_large : (entering : Line) (column : ℕ) (lines : List Line) (i common most : ℕ) → i < length lines → 0 < common →
    All (λ (line : Line). 0 < denominator_after entering column line) lines →
    most < lcm common (denominator_after entering column (slice_index_or lines i no_line)) →
    most < common_after entering column (drop i lines) common
too_large entering column lines i common most i_in some all large =
    let b = denominator_after entering column (slice_index_or lines i no_line) in
    let more : lcm common b ≤ common_after entering column (drop (i + 1) lines) (lcm common b) =
    common_grows entering column (drop (i + 1) lines) (lcm common b) (lcm_positive common b some (all i no_line i_in))
    (All-drop (λ (line : Line). 0 < denominator_after entering column line) (i + 1) lines all) in
    omega (arith, large, more, common_step entering column lines i common i_in)

-- a common denominator is the common multiple where the line's goes into it and the multiplier is 1
pub lcm_read : (common : ℤ) (d : ℕ) (multiplier : ℤ) → (pos 0 <ℤ common) × (common ≤ℤ pos (2 ^ 30)) → d ∣ nat_abs common → multiplier ≡ pos 1 →
    (pos 0 <ℤ read common) × (nat_abs (read common) ≡ lcm (nat_abs common) (d * nat_abs multiplier)) × (read common ≤ℤ pos (2 ^ 30))
lcm_read common d multiplier range divides one =
    let small : nat_abs common ≤ 2 ^ 30 = size_most common (2 ^ 30) range.0 range.1 in
    let same : d * nat_abs multiplier ≡ d = ap (λ (m : ℤ). d * nat_abs m) one ∙ mul-one d in
    let multiple : nat_abs common ≡ lcm (nat_abs common) (d * nat_abs multiplier) =
    sym (ap (lcm (nat_abs common)) same ∙ lcm_same (nat_abs common) d divides) in
    subst (λ (z : ℤ). (pos 0 <ℤ z) × (nat_abs z ≡ lcm (nat_abs common) (d * nat_abs multiplier)) × (z ≤ℤ pos (2 ^ 30)))
    (sym (read_number common (omega (arith, small)))) (range.0, multiple, range.1)

-- the common denominator as it is read at first
pub first_read : (entering : Line) (column : ℕ) (lines : List Line) (common : ℤ) → (pos 0 <ℤ common) × (common ≤ℤ pos (2 ^ 30)) →
    (common_after entering column lines (nat_abs (read common)) ≡ common_after entering column lines (nat_abs common))
    × ((pos 0 <ℤ read common) × (read common ≤ℤ pos (2 ^ 30))) × (nat_abs common ∣ nat_abs (read common))
first_read entering column lines common range =
    let small : nat_abs common ≤ 2 ^ 30 = size_most common (2 ^ 30) range.0 range.1 in
    let same : read common ≡ common = read_number common (omega (arith, small)) in (
      ap (λ (z : ℤ). common_after entering column lines (nat_abs z)) same,
      subst (λ (z : ℤ). (pos 0 <ℤ z) × (z ≤ℤ pos (2 ^ 30))) (sym same) range,
      subst (λ (z : ℤ). nat_abs common ∣ nat_abs z) (sym same) (dvd_refl (nat_abs common)),
    )

-- and with one line more
pub next_read : (entering : Line) (column : ℕ) (lines : List Line) (i first last : ℕ) (common new : ℤ) → i < length lines →
    common_after entering column (drop i lines) (nat_abs common) ≡ last → first ∣ nat_abs common →
    (pos 0 <ℤ new) × (nat_abs new ≡ lcm (nat_abs common) (denominator_after entering column (slice_index_or lines i no_line))) × (new ≤ℤ pos (2 ^ 30)) →
    (common_after entering column (drop (i + 1) lines) (nat_abs (read new)) ≡ last)
    × ((pos 0 <ℤ read new) × (read new ≤ℤ pos (2 ^ 30))) × (first ∣ nat_abs (read new))
next_read entering column lines i first last common new i_in left divides is =
    let small : nat_abs new ≤ 2 ^ 30 = size_most new (2 ^ 30) is.0 is.2 in
    let same : read new ≡ new = read_number new (omega (arith, small)) in
    let b = denominator_after entering column (slice_index_or lines i no_line) in (
      ap (λ (z : ℤ). common_after entering column (drop (i + 1) lines) (nat_abs z)) same
          ∙ ap (common_after entering column (drop (i + 1) lines)) is.1
          ∙ sym (common_step entering column lines i (nat_abs common) i_in)
          ∙ left,
      subst (λ (z : ℤ). (pos 0 <ℤ z) × (z ≤ℤ pos (2 ^ 30))) (sym same) (is.0, is.2),
      subst (λ (z : ℤ). first ∣ nat_abs z) (sym same)
          (subst (λ (n : ℕ). first ∣ n) (sym is.1) (dvd_trans first divides (left_divides_lcm (nat_abs common) b))),
    )

-- a common multiple by what it is made of
pub multiple_of : (o : Option ℤ) (a b C B : ℕ) → a ≡ C → b ≡ B →
    MatchOption o (2 ^ 30 < lcm a b) (λ (new : ℤ). (pos 0 <ℤ new) × (nat_abs new ≡ lcm a b) × (new ≤ℤ pos (2 ^ 30))) →
    MatchOption o (2 ^ 30 < lcm C B) (λ (new : ℤ). (pos 0 <ℤ new) × (nat_abs new ≡ lcm C B) × (new ≤ℤ pos (2 ^ 30)))
multiple_of o a b C B a_is b_is told =
    subst (λ (n : ℕ). MatchOption o (2 ^ 30 < lcm C n) (λ (new : ℤ). (pos 0 <ℤ new) × (nat_abs new ≡ lcm C n) × (new ≤ℤ pos (2 ^ 30)))) b_is
    (subst (λ (n : ℕ). MatchOption o (2 ^ 30 < lcm n b) (λ (new : ℤ). (pos 0 <ℤ new) × (nat_abs new ≡ lcm n b) × (new ≤ℤ pos (2 ^ 30)))) a_is told)

-- once no line is left it is the common multiple itself
pub none_left : (entering : Line) (column : ℕ) (lines : List Line) (i common last : ℕ) → length lines ≤ i →
    common_after entering column (drop i lines) common ≡ last → common ≡ last
none_left entering column lines i common last past left =
    sym (at_drop_all (λ (ls : List Line). common_after entering column ls common) lines i past) ∙ left

-- an answer that is none
pub match_none : {X Fact : Type 0} (o : Option X) (P : X → Type 0) → o ≡ None → Fact → MatchOption o Fact P
match_none {X} {Fact} o P none fact = subst (λ (m : Option X). MatchOption m Fact P) (sym none) fact
