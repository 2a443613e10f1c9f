-- Marks at columns: one that is put or taken away, and the first one of two lists.
use Rattle.std.proofs.Common.{◌≡◌, ◌≢◌, ℕ, ℤ, ◌+◌, ◌-◌, ◌*◌, ◌/◌, ◌%◌, ◌^◌, ◌<◌, ◌≤◌, ◌∙◌, ap, sym, inl, inr, List, pos, length, arith, slice_index_or, slice_set, bit_or, bit_and, map, w64, Bool, true, false, refl}
use Rattle.std.proofs.lemmas.Bool.{cases_eq, cases_lt}
use Rattle.std.proofs.lemmas.Nat.{shr-shr}
use Rattle.std.proofs.Math.Nat.{div-le_self}
use Rattle.std.proofs.lemmas.List.{get_or-set_other, get_or-set_same, get_or_past, length-set}
use Rattle.std.proofs.lemmas.Nat.Bits.{bit_at-trailing_zeros, bit_at-zero, bit_at_above, bit_at_clear_other, bit_at_or, bit_at_set_other, bit_at_set_same}
use Rattle.std.specs.Int.{bit_at, bit_not, trailing_zeros}
use Rattle.cost_base.specs.Lists.{numbers_from}
use Rattle.cost_base.proofs.ListLemmas.{get_or-map-numbers_from, length-map-numbers_from}
use Rattle.whole_numbers.specs.Lists.{number_at}
use Rattle.integer_pivots.specs.Marks.{AreNumbersMarked, IsUnmarked}

module _ (first second : List ℕ) (c : ℕ) where
  -- the words of a column's marks in both lists, as one
  abbrev both : ℕ
  both = bit_or (slice_index_or first (c / 64) 0) (slice_index_or second (c / 64) 0)

  -- neither has a mark where the two words as one have none
  pub neither : bit_at both (c % 64) ≡ 0 → IsUnmarked first c × IsUnmarked second c
  neither none =
      let at = bit_at_or (slice_index_or first (c / 64) 0) (slice_index_or second (c / 64) 0) (c % 64) in
      (omega (arith, at, none), omega (arith, at, none))

-- a word without a mark
pub no_word : (first second : List ℕ) (word c : ℕ) → c / 64 ≡ word →
    bit_or (slice_index_or first word 0) (slice_index_or second word 0) ≡ 0 → IsUnmarked first c × IsUnmarked second c
no_word first second word c at none =
    neither first second c
    (ap (λ (w : ℕ). bit_at (bit_or (slice_index_or first w 0) (slice_index_or second w 0)) (c % 64)) at
    ∙ ap (λ (m : ℕ). bit_at m (c % 64)) none ∙ bit_at-zero (c % 64))

-- a bit of what is left of a word behind its first bits
rest_bit : (marks from i : ℕ) → from ≤ i → bit_at (marks / 2 ^ from) (i - from) ≡ bit_at marks i
rest_bit marks from i behind =
    ap (λ (m : ℕ). m % 2) (shr-shr marks from (i - from))
    ∙ ap (λ (j : ℕ). bit_at marks j) (omega (arith, behind))

-- where nothing is left behind a word's first bits, no bit behind them is set
pub none_left : (marks from i : ℕ) → marks / 2 ^ from ≡ 0 → from ≤ i → bit_at marks i ≡ 0
none_left marks from i none behind =
    sym (rest_bit marks from i behind) ∙ ap (λ (m : ℕ). bit_at m (i - from)) none ∙ bit_at-zero (i - from)

-- the first bit that is set behind a word's first ones
module _ (marks from : ℕ) (within : marks < 2 ^ 64) (some : 0 < marks / 2 ^ from) where
  abbrev found : ℕ
  found = trailing_zeros w64 (marks / 2 ^ from)

  is_found : (found < 64) × (bit_at (marks / 2 ^ from) found ≡ 1) × ((i : ℕ) → i < found → bit_at (marks / 2 ^ from) i ≡ 0)
  is_found = bit_at-trailing_zeros w64 (marks / 2 ^ from) some (omega (arith, within, div-le_self marks (2 ^ from)))

  -- no bit between is set
  pub none_before : (i : ℕ) → from ≤ i → i < from + found → bit_at marks i ≡ 0
  none_before i behind before = sym (rest_bit marks from i behind) ∙ is_found.2 (i - from) (omega (arith, behind, before))

  -- it is one of the word's bits
  pub found_within : from + found < 64
  found_within =
      elim (cases_lt (from + found) 64) [
        | inl here ↦ here
        | inr beyond ↦
            absurd (let set : bit_at marks (from + found) ≡ 1 =
            sym (rest_bit marks from (from + found) (omega arith))
            ∙ ap (λ (i : ℕ). bit_at (marks / 2 ^ from) i) (omega arith) ∙ is_found.1 in
            let none : bit_at marks (from + found) ≡ 0 = bit_at_above marks 64 (from + found) within beyond in
            omega (arith, set, none))
      ]

-- a word before which no mark stands
abbrev pub NoneBefore : List ℕ → List ℕ → ℕ → ℕ → Type 0
NoneBefore first second from to = (c : ℕ) → from ≤ c → c < to → IsUnmarked first c × IsUnmarked second c

-- one word more without a mark
pub one_word : (first second : List ℕ) (from word : ℕ) → NoneBefore first second from (word * 64) →
    bit_or (slice_index_or first word 0) (slice_index_or second word 0) ≡ 0 → NoneBefore first second from ((word + 1) * 64)
one_word first second from word none empty c behind before =
    elim (cases_lt c (word * 64)) [
      | inl earlier ↦ none c behind earlier
      | inr here ↦ no_word first second word c (omega (arith, before, here)) empty
    ]

-- no mark stands before the first bit of a word that is set behind some bits, where none stands before that word
pub none_up_to : (first second : List ℕ) (from word bit marks to : ℕ) →
    marks ≡ bit_or (slice_index_or first word 0) (slice_index_or second word 0) →
    marks < 2 ^ 64 → 0 < marks / 2 ^ bit → from ≤ word * 64 + bit → NoneBefore first second from (word * 64 + bit) →
    to ≤ word * 64 + (bit + trailing_zeros w64 (marks / 2 ^ bit)) → NoneBefore first second from to
none_up_to first second from word bit marks to is within some at none low c behind before =
    let fits = found_within marks bit within some in
    elim (cases_lt c (word * 64 + bit)) [
      | inl earlier ↦ none c behind earlier
      | inr here ↦
          let word_is : c / 64 ≡ word = omega (arith, here, before, low, fits) in
          let bit_is : c % 64 ≡ c - word * 64 = omega (arith, here, before, low, fits) in
          neither first second c
          (ap (λ (w : ℕ). bit_at (bit_or (slice_index_or first w 0) (slice_index_or second w 0)) (c % 64)) word_is
          ∙ ap (λ (m : ℕ). bit_at m (c % 64)) (sym is)
          ∙ none_before marks bit within some (c % 64) (omega (arith, bit_is, here)) (omega (arith, bit_is, here, before, low)))
    ]

-- no mark stands in the rest of a word
pub none_to_end : (first second : List ℕ) (column : ℕ) →
    bit_or (slice_index_or first (column / 64) 0) (slice_index_or second (column / 64) 0) / 2 ^ (column % 64) ≡ 0 →
    NoneBefore first second column ((column / 64 + 1) * 64)
none_to_end first second column none c behind before =
    let marks : ℕ = bit_or (slice_index_or first (column / 64) 0) (slice_index_or second (column / 64) 0) in
    let word_is : c / 64 ≡ column / 64 = omega (arith, behind, before) in
    neither first second c
    (ap (λ (w : ℕ). bit_at (bit_or (slice_index_or first w 0) (slice_index_or second w 0)) (c % 64)) word_is
    ∙ none_left marks (column % 64) (c % 64) none (omega (arith, behind, word_is)))

-- a mark that is put at a column stands there
pub set_own : (marks : List ℕ) (column word : ℕ) → column / 64 < length marks →
    bit_at (slice_index_or (slice_set marks (column / 64) (bit_or word (1 * 2 ^ (column % 64) % 2 ^ 64))) (column / 64) 0)
    (column % 64) ≡ 1
set_own marks column word within =
    ap (λ (m : ℕ). bit_at m (column % 64)) (get_or-set_same marks (column / 64) _ 0 within)
    ∙ bit_at_set_same w64 word (column % 64) (omega arith)

-- what a word is replaced by has no mark less at another column
word_replaced : (marks : List ℕ) (column word c : ℕ) → column / 64 < length marks → c ≢ column →
    ((i : ℕ) → i < 64 → i ≢ column % 64 → bit_at word i ≡ bit_at (slice_index_or marks (column / 64) 0) i) →
    IsUnmarked (slice_set marks (column / 64) word) c → IsUnmarked marks c
word_replaced marks column word c within other same none =
    elim (cases_eq (c / 64) (column / 64)) [
      | inl here ↦
          ap (λ (w : ℕ). bit_at (slice_index_or marks w 0) (c % 64)) here
          ∙ sym (same (c % 64) (omega arith) (λ alike. other (omega (arith, alike, here))))
          ∙ ap (λ (m : ℕ). bit_at m (c % 64)) (sym (get_or-set_same marks (column / 64) word 0 within))
          ∙ ap (λ (w : ℕ). bit_at (slice_index_or (slice_set marks (column / 64) word) w 0) (c % 64)) (sym here)
          ∙ none
      | inr there ↦
          ap (λ (m : ℕ). bit_at m (c % 64)) (sym (get_or-set_other marks (column / 64) (c / 64) word 0 there)) ∙ none
    ]

-- neither a mark that is put nor one that is taken away changes those of other columns
pub set_others : (marks : List ℕ) (column word : ℕ) → column / 64 < length marks → word ≡ slice_index_or marks (column / 64) 0 →
    (c : ℕ) → c ≢ column →
    IsUnmarked (slice_set marks (column / 64) (bit_or word (1 * 2 ^ (column % 64) % 2 ^ 64))) c → IsUnmarked marks c
set_others marks column word within is c other none =
    word_replaced marks column _ c within other
    (λ i small apart. bit_at_set_other w64 word (column % 64) (omega arith) i apart ∙ ap (λ (m : ℕ). bit_at m i) is) none

pub clear_others : (marks : List ℕ) (column word : ℕ) → column / 64 < length marks → word ≡ slice_index_or marks (column / 64) 0 →
    (c : ℕ) → c ≢ column →
    IsUnmarked (slice_set marks (column / 64) (bit_and word (bit_not w64 (1 * 2 ^ (column % 64) % 2 ^ 64)))) c →
    IsUnmarked marks c
clear_others marks column word within is c other none =
    word_replaced marks column _ c within other
    (λ i small apart. bit_at_clear_other w64 word (column % 64) (omega arith) i small apart ∙ ap (λ (m : ℕ). bit_at m i) is) none

-- Numbers stay marked where one is put at a column: others lose no mark, and its own stands unless it is 0.
pub stays_marked : (numbers : List ℤ) (marks new : List ℕ) (column : ℕ) (number : ℤ) (stands : Bool) → AreNumbersMarked numbers marks →
    length new ≡ length marks → column < length numbers → (stands ≡ false → number ≡ pos 0) →
    (stands ≡ true → bit_at (slice_index_or new (column / 64) 0) (column % 64) ≡ 1) →
    ((c : ℕ) → c ≢ column → IsUnmarked new c → IsUnmarked marks c) → AreNumbersMarked (slice_set numbers column number) new
stays_marked numbers marks new column number stands kept count within zero own others = record {
  words = count ∙ kept.words ∙ ap (λ (n : ℕ). n / 64 + 1) (sym (length-set numbers column number));
  zeros =
      λ c none. elim (cases_eq c column) [
        | inl here ↦
            ap (λ (k : ℕ). number_at (slice_set numbers column number) k) here
            ∙ get_or-set_same numbers column number (pos 0) within
            ∙ own_zero new column number stands zero own (ap (λ (k : ℕ). bit_at (slice_index_or new (k / 64) 0) (k % 64)) (sym here) ∙ none)
        | inr there ↦ get_or-set_other numbers column c number (pos 0) there ∙ kept.zeros c (others c there none)
      ];
} where
  own_zero : (new : List ℕ) (column : ℕ) (number : ℤ) (stands : Bool) → (stands ≡ false → number ≡ pos 0) →
      (stands ≡ true → bit_at (slice_index_or new (column / 64) 0) (column % 64) ≡ 1) → IsUnmarked new column → number ≡ pos 0
  own_zero new column number false zero own none = zero refl
  own_zero new column number true zero own none = absurd (omega (arith, own refl, none))

-- zeros need no mark
pub zeros_marked : (width : ℕ) (numbers : List ℤ) (marks : List ℕ) → numbers ≡ map (λ place. pos 0) (numbers_from 0 width) →
    marks ≡ map (λ place. 0) (numbers_from 0 (width / 64 + 1)) → AreNumbersMarked numbers marks
zeros_marked width numbers marks are are_marks =
    let long : length numbers ≡ width = ap length are ∙ length-map-numbers_from (λ place. pos 0) 0 width in
    let words : length marks ≡ width / 64 + 1 = ap length are_marks ∙ length-map-numbers_from (λ place. 0) 0 (width / 64 + 1) in record {
      words = words ∙ ap (λ (n : ℕ). n / 64 + 1) (sym long);
      zeros =
          λ c none. elim (cases_lt c width) [
            | inl inside ↦
                ap (λ (xs : List ℤ). number_at xs c) are ∙ get_or-map-numbers_from (λ place. pos 0) 0 width c (pos 0) inside
            | inr outside ↦ get_or_past numbers c (pos 0) (omega (arith, long, outside))
          ];
    }
