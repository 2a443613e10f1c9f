-- The place of a column in a list that rises: each half that is left out lacks it.
use Rattle.std.proofs.Common.{◌≡◌, ◌≢◌, ℕ, zero, suc, ◌+◌, ◌<◌, ◌≤◌, refl, sym, ◌∙◌, ap, subst, List, [], ◌∷◌, ◌++◌, length, map, take, drop, cond, arith}
use Rattle.std.specs.Prelude.{◌==◌, slice_set, slice_index_or}
use Rattle.std.proofs.lemmas.List.{append_assoc, append-nil, length-append, take-append-drop}
use Rattle.std.proofs.lemmas.List.Elements.{All-append, All-cons, All-head, All-nil, All-tail}
use Rattle.std.proofs.lemmas.Bool.{ne_eqb}
use Rattle.whole_numbers.specs.Fractions.{Fraction}
use Rattle.fraction_lines.specs.TableLines.{Rises, fraction_at, nothing}
use Rattle.fraction_lines.specs.Entries.{IsHalfOf, IsPlaceOf, IsWithout, head_column, replaced}
use Rattle.fraction_lines.proofs.Columns.{fraction_there, rises_from}

abbrev Entries : Type 0
Entries = List (ℕ × Fraction)

abbrev IsApart : ℕ → (ℕ × Fraction) → Type 0
IsApart column e = e.0 ≢ column

-- a list that rises behind a column lacks it
pub behind_without : (low high column : ℕ) (es : Entries) → Rises low high es → column < low → IsWithout column es
behind_without low high column [] rises behind = All-nil (IsApart column)
behind_without low high column (e ∷ es) rises behind =
    All-cons (IsApart column) e es (apart rises.0) (behind_without (suc e.0) high column es rises.3 (omega (arith, rises.0)))
  where
    apart : low ≤ e.0 → e.0 ≢ column
    apart from = omega arith

-- and so does one whose first column is behind it
pub head_without : (low high column past : ℕ) (es : Entries) → Rises low high es → column < head_column es past → IsWithout column es
head_without low high column past [] rises behind = All-nil (IsApart column)
head_without low high column past (e ∷ es) rises behind = behind_without e.0 high column (e ∷ es) (omega arith, rises.1, rises.2, rises.3) behind

-- what stands before a column that isn't behind it lacks it
pub before_without : (low high column m past : ℕ) (es : Entries) → Rises low high es → m < length es →
    head_column (drop m es) past ≤ column → IsWithout column (take m es)
before_without low high column m past [] rises m_in reached = absurd (omega arith)
before_without low high column zero past (e ∷ es) rises m_in reached = All-nil (IsApart column)
before_without low high column (suc m) past (e ∷ es) rises m_in reached =
    let from = rises_from (suc e.0) high es m past rises.3 (omega (arith, m_in)) in
    All-cons (IsApart column) e (take m es) (omega (arith, from, reached))
    (before_without (suc e.0) high column m past es rises.3 (omega (arith, m_in)) reached)

pub half_begins : (es : Entries) (column : ℕ) → IsHalfOf es column 0 es
half_begins es column =
    record {
      before = [];
      after = [];
      whole = sym (append-nil es);
      place_is = refl;
      early = All-nil (IsApart column);
      late = All-nil (IsApart column);
    }

-- the first half is kept
pub first_half : (es : Entries) (column place : ℕ) (left : Entries) (m : ℕ) → IsHalfOf es column place left →
    IsWithout column (drop m left) → IsHalfOf es column place (take m left)
first_half es column place left m h without =
    record {
      before = h.before;
      after = drop m left ++ h.after;
      whole =
          h.whole
          ∙ ap (λ (l : Entries). h.before ++ (l ++ h.after)) (sym (take-append-drop m left))
          ∙ ap (λ (l : Entries). h.before ++ l) (append_assoc (take m left) (drop m left) h.after);
      place_is = h.place_is;
      early = h.early;
      late = All-append (IsApart column) (drop m left) h.after without h.late;
    }

-- the second half is
pub second_half : (es : Entries) (column place : ℕ) (left : Entries) (m : ℕ) → IsHalfOf es column place left →
    m < length left → IsWithout column (take m left) → IsHalfOf es column (place + m) (drop m left)
second_half es column place left m h m_in without =
    record {
      before = h.before ++ take m left;
      after = h.after;
      whole =
          h.whole
          ∙ ap (λ (l : Entries). h.before ++ (l ++ h.after)) (sym (take-append-drop m left))
          ∙ ap (λ (l : Entries). h.before ++ l) (append_assoc (take m left) (drop m left) h.after)
          ∙ sym (append_assoc h.before (take m left) (drop m left ++ h.after));
      place_is = ap (λ (k : ℕ). k + m) h.place_is ∙ counted;
      early = All-append (IsApart column) h.before (take m left) h.early without;
      late = h.late;
    }
  where
    taken : (n : ℕ) (l : Entries) → n < length l → length (take n l) ≡ n
    taken n [] n_in = absurd (omega arith)
    taken zero (e ∷ l) n_in = refl
    taken (suc n) (e ∷ l) n_in = ap suc (taken n l (omega (arith, n_in)))

    counted : length h.before + m ≡ length (h.before ++ take m left)
    counted = omega (arith, length-append h.before (take m left), taken m left m_in)

pub half_ends : (es : Entries) (column place : ℕ) (left : Entries) → IsHalfOf es column place left → length left ≤ 1 → IsPlaceOf es column place
half_ends es column place left h few =
    record { before = h.before; left = left; after = h.after; whole = h.whole; place_is = h.place_is; few = few; early = h.early; late = h.late }

-- a list that lacks the column has no fraction there
none_at : (column : ℕ) (es : Entries) → IsWithout column es → fraction_at es column ≡ nothing
none_at column [] without = refl
none_at column (e ∷ es) without =
    fraction_there e es column (All-head (IsApart column) e es without) ∙ none_at column es (All-tail (IsApart column) e es without)

-- what is left has the column's fraction
pub half_has : (es : Entries) (column place : ℕ) (left : Entries) → IsHalfOf es column place left → fraction_at es column ≡ fraction_at left column
half_has es column place left h =
    ap (λ (l : Entries). fraction_at l column) h.whole ∙ behind h.before h.early ∙ ahead left
  where
    behind : (before : Entries) → IsWithout column before → fraction_at (before ++ (left ++ h.after)) column ≡ fraction_at (left ++ h.after) column
    behind [] without = refl
    behind (e ∷ before) without =
        fraction_there e (before ++ (left ++ h.after)) column (All-head (IsApart column) e before without)
        ∙ behind before (All-tail (IsApart column) e before without)

    ahead : (l : Entries) → fraction_at (l ++ h.after) column ≡ fraction_at l column
    ahead [] = none_at column h.after h.late
    ahead (e ∷ l) = ap (λ f. cond (e.0 == column) e.1 f) (ahead l)

apart_stays : (column : ℕ) (value : Fraction) (e : ℕ × Fraction) → e.0 ≢ column → replaced column value e ≡ e
apart_stays column value e apart = ap (λ b. cond b (e.0, value) e) (ne_eqb e.0 column apart)

-- a list that lacks the column stays as it is
pub without_stays : (column : ℕ) (value : Fraction) (es : Entries) → IsWithout column es → map (replaced column value) es ≡ es
without_stays column value [] without = refl
without_stays column value (e ∷ es) without =
    ap (λ (d : ℕ × Fraction). d ∷ map (replaced column value) es) (apart_stays column value e (All-head (IsApart column) e es without))
    ∙ ap (λ (l : Entries). e ∷ l) (without_stays column value es (All-tail (IsApart column) e es without))

-- the list with its pair at the place replaced
pub place_replaced : (column : ℕ) (value : Fraction) (before left after : Entries) (d : ℕ × Fraction) →
    length left ≤ 1 → IsWithout column before → IsWithout column after →
    length before < length (before ++ (left ++ after)) →
    slice_set (before ++ (left ++ after)) (length before)
    (replaced column value (slice_index_or (before ++ (left ++ after)) (length before) d))
    ≡ map (replaced column value) (before ++ (left ++ after))
place_replaced column value [] [] [] d few early late place_in = absurd (omega arith)
place_replaced column value [] [] (e ∷ after) d few early late place_in =
    ap (λ (l : Entries). replaced column value e ∷ l) (sym (without_stays column value after (All-tail (IsApart column) e after late)))
place_replaced column value [] (e ∷ []) after d few early late place_in =
    ap (λ (l : Entries). replaced column value e ∷ l) (sym (without_stays column value after late))
place_replaced column value [] (e ∷ f ∷ left) after d few early late place_in = absurd (omega arith)
place_replaced column value (b ∷ before) left after d few early late place_in =
    ap (λ (l : Entries). b ∷ l) (place_replaced column value before left after d few (All-tail (IsApart column) b before early) late (omega (arith, place_in)))
    ∙ ap (λ (e : ℕ × Fraction). e ∷ map (replaced column value) (before ++ (left ++ after)))
    (sym (apart_stays column value b (All-head (IsApart column) b before early)))

-- a list that ends before the place lacks the column
pub place_beyond : (column : ℕ) (value : Fraction) (es : Entries) (place : ℕ) → IsPlaceOf es column place →
    length es ≤ place → es ≡ map (replaced column value) es
place_beyond column value es place h beyond =
    let none : h.left ++ h.after ≡ [] = empty (h.left ++ h.after) (omega (arith, ap length h.whole, length-append h.before (h.left ++ h.after), h.place_is)) in
    let same : es ≡ h.before = h.whole ∙ ap (λ (l : Entries). h.before ++ l) none ∙ append-nil h.before in
    sym (subst (λ (l : Entries). map (replaced column value) l ≡ l) (sym same) (without_stays column value h.before h.early))
  where
    empty : (l : Entries) → length l ≡ 0 → l ≡ []
    empty [] none = refl
    empty (e ∷ l) none = absurd (omega arith)

pub place_written : (column : ℕ) (value : Fraction) (es : Entries) (place : ℕ) (d : ℕ × Fraction) →
    IsPlaceOf es column place → place < length es →
    slice_set es place (replaced column value (slice_index_or es place d)) ≡ map (replaced column value) es
place_written column value es place d h place_in =
    subst (λ (l : Entries). slice_set l place (replaced column value (slice_index_or l place d)) ≡ map (replaced column value) l) (sym h.whole)
    (subst (λ (k : ℕ). slice_set (h.before ++ (h.left ++ h.after)) k
    (replaced column value (slice_index_or (h.before ++ (h.left ++ h.after)) k d))
    ≡ map (replaced column value) (h.before ++ (h.left ++ h.after))) (sym h.place_is)
    (place_replaced column value h.before h.left h.after d h.few h.early h.late (omega (arith, place_in, ap length h.whole, h.place_is))))
