-- The columns in which a line isn't 0, and numbers of which those in these columns are written.
use Rattle.std.proofs.Common.{◌≡◌, ◌≢◌, ℕ, zero, suc, ◌+◌, ◌<◌, ◌≤◌, refl, sym, ◌∙◌, ap, subst, List, [], ◌∷◌, ◌++◌, length, arith, inl, inr, ◌⊎◌, get_or-set_same, get_or-set_other}
use Rattle.std.specs.Prelude.{ℤ, pos, slice_index_or, slice_set}
use Rattle.std.proofs.Math.Seq.{get_or-append_seam}
use Rattle.std.proofs.lemmas.Bool.{cases_eq, cases_lt}
use Rattle.std.proofs.lemmas.List.{get_or_append_left, length-append, length-set}
use Rattle.whole_numbers.specs.Lists.{number_at}
use Rattle.integer_pivots.specs.Turns.{AreNonZeros}
use Rattle.integer_pivots.proofs.WrittenPlaces.{all_more}

-- the next column joins those before it
pub non_zero_joins : (line : List ℤ) (i : ℕ) (columns : List ℕ) → AreNonZeros line i columns → AreNonZeros line (i + 1) (columns ++ i ∷ [])
non_zero_joins line i columns t =
    record { before = before; rises = rises; others = others }
  where
    long : length (columns ++ i ∷ []) ≡ length columns + 1
    long = length-append columns (i ∷ [])

    stays : (place : ℕ) → place < length columns → slice_index_or (columns ++ i ∷ []) place 0 ≡ slice_index_or columns place 0
    stays place place_in = get_or_append_left columns (i ∷ []) 0 place place_in

    before : (place : ℕ) → place < length (columns ++ i ∷ []) → slice_index_or (columns ++ i ∷ []) place 0 < i + 1
    before place place_in =
        elim (cases_eq place (length columns)) [
          | inl same ↦ omega (arith, ap (λ k. slice_index_or (columns ++ i ∷ []) k 0) same ∙ get_or-append_seam columns i [] 0)
          | inr other ↦
              let inside : place < length columns = omega (arith, place_in, long, other) in
              omega (arith, stays place inside, t.before place inside)
        ]

    rises : (first second : ℕ) → first < second → second < length (columns ++ i ∷ []) →
        slice_index_or (columns ++ i ∷ []) first 0 < slice_index_or (columns ++ i ∷ []) second 0
    rises first second less second_in =
        let first_in : first < length columns = omega (arith, less, second_in, long) in
        elim (cases_eq second (length columns)) [
          | inl same ↦ omega (
            arith,
            ap (λ k. slice_index_or (columns ++ i ∷ []) k 0) same
                ∙ get_or-append_seam columns i [] 0,
            stays first first_in,
            t.before first first_in,
          )
          | inr other ↦
              let inside : second < length columns = omega (arith, second_in, long, other) in
              omega (arith, stays first first_in, stays second inside, t.rises first second less inside)
        ]

    others : (c : ℕ) → c < i + 1 →
        ((place : ℕ) × ((place < length (columns ++ i ∷ [])) × (slice_index_or (columns ++ i ∷ []) place 0 ≡ c)))
        ⊎ (number_at line c ≡ pos 0)
    others c c_in =
        elim (cases_eq c i) [
          | inl same ↦ inl (length columns, (omega (arith, long), get_or-append_seam columns i [] 0 ∙ sym same))
          | inr other ↦
              elim (t.others c (omega (arith, c_in, other))) [
                | inl among ↦ inl (among.0, (omega (arith, long, among.1.0), stays among.0 among.1.0 ∙ among.1.1))
                | inr none ↦ inr none
              ]
        ]

-- and one in which the line is 0 doesn't
pub zero_passes : (line : List ℤ) (i : ℕ) (columns : List ℕ) → number_at line i ≡ pos 0 → AreNonZeros line i columns → AreNonZeros line (i + 1) columns
zero_passes line i columns none t =
    record {
      before = λ place place_in. let e = t.before place place_in in omega (arith, e);
      rises = t.rises;
      others = λ c c_in.
          elim (cases_eq c i) [
            | inl same ↦ inr (ap (number_at line) same ∙ none)
            | inr other ↦ t.others c (omega (arith, c_in, other))
          ];
    }

-- no one of these is the column
abbrev pub IsApart : ℕ → List ℕ → Type 0
IsApart column columns = (place : ℕ) → place < length columns → slice_index_or columns place 0 ≢ column

among_or_apart : (column : ℕ) (columns : List ℕ) →
    ((place : ℕ) × ((place < length columns) × (slice_index_or columns place 0 ≡ column))) ⊎ IsApart column columns
among_or_apart column [] = inr (λ place place_in. absurd (omega (arith, place_in)))
among_or_apart column (x ∷ xs) =
    elim (cases_eq x column) [
      | inl same ↦ inl (0, (omega arith, same))
      | inr other ↦
          elim (among_or_apart column xs) [
            | inl among ↦ inl (suc among.0, (omega (arith, among.1.0), among.1.1))
            | inr apart ↦ inr (both other apart)
          ]
    ]
  where
    both : x ≢ column → IsApart column xs → IsApart column (x ∷ xs)
    both other apart zero place_in = other
    both other apart (suc place) place_in = apart place (omega (arith, place_in))

-- The numbers in the columns before a place are written as they should be, and the others are as before.
pub record AreTouched (P : ℕ → ℤ → Type 0) (columns : List ℕ) (index : ℕ) (olds news : List ℤ) : Type 0 where
  pub count : length news ≡ length olds
  pub done : (place : ℕ) → place < index → P (slice_index_or columns place 0) (number_at news (slice_index_or columns place 0))
  pub rest : (c : ℕ) → ((place : ℕ) → place < index → slice_index_or columns place 0 ≢ c) → number_at news c ≡ number_at olds c

pub none_touched : (P : ℕ → ℤ → Type 0) (columns : List ℕ) (olds : List ℤ) → AreTouched P columns 0 olds olds
none_touched P columns olds = record { count = refl; done = λ place none. absurd (omega (arith, none)); rest = λ c apart. refl }

module _ (P : ℕ → ℤ → Type 0) (line : List ℤ) (columns : List ℕ) (t : AreNonZeros line (length line) columns) where
  -- the next number is as before
  pub next_as_before : (index : ℕ) (olds news : List ℤ) → index < length columns → AreTouched P columns index olds news →
      number_at news (slice_index_or columns index 0) ≡ number_at olds (slice_index_or columns index 0)
  next_as_before index olds news index_in are =
      are.rest (slice_index_or columns index 0) (λ place place_in same. let e = t.rises place index place_in index_in in omega (arith, e, same))

  -- and once it is written, one more is
  pub one_touched : (index : ℕ) (olds news : List ℤ) (z : ℤ) → index < length columns → length olds ≡ length line →
      AreTouched P columns index olds news → P (slice_index_or columns index 0) z →
      AreTouched P columns (index + 1) olds (slice_set news (slice_index_or columns index 0) z)
  one_touched index olds news z index_in long are here =
      record {
        count = length-set news own z ∙ are.count;
        done = all_more (λ place. P (slice_index_or columns place 0) (number_at (slice_set news own z) (slice_index_or columns place 0))) index
            (λ place place_in. subst (P (slice_index_or columns place 0))
            (sym (get_or-set_other news own (slice_index_or columns place 0) z (pos 0) (apart place place_in))) (are.done place place_in))
            (subst (P own) (sym (get_or-set_same news own z (pos 0) own_in)) here);
        rest = λ c away.
            get_or-set_other news own c z (pos 0) (λ same. away index (omega arith) (sym same))
            ∙ are.rest c (λ place place_in. away place (omega (arith, place_in)));
      }
    where
      own : ℕ
      own = slice_index_or columns index 0

      own_in : own < length news
      own_in = let e = t.before index index_in in omega (arith, e, long, are.count)

      apart : (place : ℕ) → place < index → slice_index_or columns place 0 ≢ own
      apart place place_in same = let e = t.rises place index place_in index_in in omega (arith, e, same)

  -- at the end all numbers are, where those may stay over which the line is 0
  pub all_touched : (olds news : List ℤ) → AreTouched P columns (length columns) olds news →
      ((c : ℕ) → number_at line c ≡ pos 0 → P c (number_at olds c)) → (c : ℕ) → c < length line → P c (number_at news c)
  all_touched olds news are stays c c_in =
      elim (among_or_apart c columns) [
        | inl among ↦ subst (λ k. P k (number_at news k)) among.1.1 (are.done among.0 among.1.0)
        | inr apart ↦
            elim (t.others c c_in) [
              | inl among ↦ absurd (apart among.0 among.1.0 among.1.1)
              | inr none ↦ subst (P c) (sym (are.rest c apart)) (stays c none)
            ]
      ]

-- up to a column before which the line is 0 none joins
pub zeros_pass : (line : List ℤ) (i j : ℕ) (columns : List ℕ) → AreNonZeros line i columns → i ≤ j →
    ((c : ℕ) → i ≤ c → c < j → number_at line c ≡ pos 0) → AreNonZeros line j columns
zeros_pass line i j columns t behind passed = record {
  before = λ place place_in. let e = t.before place place_in in omega (arith, e, behind);
  rises = t.rises;
  others =
      λ c c_in. elim (cases_lt c i) [
        | inl before ↦ t.others c before
        | inr here ↦ inr (passed c here c_in)
      ];
}
