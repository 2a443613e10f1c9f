-- The rows that are kept, with those that are left out behind them.
use Rattle.std.proofs.Common.{◌≡◌, ℕ, zero, suc, ◌+◌, ◌<◌, refl, sym, ◌∙◌, ap, List, [], ◌∷◌, ◌++◌, map, length, get_or, length-append, arith, Bool, true, false, cond, if◌then◌else◌, inl, inr}
use Rattle.std.specs.Prelude.{All, Contains, Option, slice_get}
use Rattle.std.specs.Option.{option_map, unwrap_or}
use Rattle.std.proofs.lemmas.Bool.{cases_Bool}
use Rattle.std.proofs.lemmas.List.{length-map, get_or_default}
use Rattle.std.proofs.lemmas.List.Elements.{All-cons, All-head, All-tail, All-append}
use Rattle.std.proofs.lemmas.Option.{slice_get-map, unwrap_or-slice_get}
use Rattle.design_problem.specs.declared.form.Form.{Form}
use Rattle.design_problem.specs.Forms.{no_form}
use Rattle.design_problem.specs.Renumbering.{IsRenumbering}
use Rattle.printed_rows.specs.NewNumbers.{KeepsRowsByNumber, kept_from, kept_rows, new_number}
use Rattle.printed_rows.proofs.NumberLaws.{numbers_rise}

-- what holds of all rows holds of those that are kept
pub kept_all : {R : Type 0} (P : R → Type 0) (named : ℕ → Bool) (first : ℕ) (rows : List R) → All P rows → All P (kept_from named first rows)
kept_all P named first [] all = all
kept_all {R} P named first (row ∷ rows) all =
    let rest = kept_all P named (suc first) rows (All-tail P row rows all) in
    by_test (named first) rest
  where
    by_test : (is : Bool) → All P (kept_from named (suc first) rows) →
        All P (if is then row ∷ kept_from named (suc first) rows else kept_from named (suc first) rows)
    by_test true rest = All-cons P row (kept_from named (suc first) rows) (All-head P row rows all) rest
    by_test false rest = rest

pub all_kept : {R : Type 0} (P : R → Type 0) (named : ℕ → Bool) (rows : List R) → All P rows → All P (kept_rows named rows)
all_kept P named rows all = kept_all P named 0 rows all

-- a test that is one row further on
shifted : (ℕ → Bool) → ℕ → Bool
shifted named row = named (suc row)

kept_shift : {R : Type 0} (named : ℕ → Bool) (first : ℕ) (rows : List R) → kept_from named (suc first) rows ≡ kept_from (shifted named) first rows
unfolding shifted
kept_shift named first [] = refl
kept_shift {R} named first (row ∷ rows) = ap (λ (ks : List R). if named (suc first) then row ∷ ks else ks) (kept_shift named (suc first) rows)

-- the number behind a first row that is kept
number_kept : (named : ℕ → Bool) (row : ℕ) → named 0 ≡ true → new_number named (suc row) ≡ suc (new_number (shifted named) row)
unfolding shifted
number_kept named zero is = let one : 0 + (if named 0 then 1 else 0) ≡ 0 + 1 = ap (λ (b : Bool). 0 + (if b then 1 else 0)) is in omega (arith, one)
number_kept named (suc row) is = let rest = number_kept named row is in omega (arith, rest)

number_left : (named : ℕ → Bool) (row : ℕ) → named 0 ≡ false → new_number named (suc row) ≡ new_number (shifted named) row
unfolding shifted
number_left named zero is = let none : 0 + (if named 0 then 1 else 0) ≡ 0 + 0 = ap (λ (b : Bool). 0 + (if b then 1 else 0)) is in omega (arith, none)
number_left named (suc row) is = let rest = number_left named row is in omega (arith, rest)

-- a row that is kept stands at its new number
pub kept_at : {R : Type 0} (named : ℕ → Bool) (rows : List R) (row : ℕ) → row < length rows → named row ≡ true →
    slice_get (kept_rows named rows) (new_number named row) ≡ slice_get rows row
unfolding shifted
kept_at named [] row within is = absurd (omega arith)
kept_at {R} named (x ∷ rows) zero within is = ap (λ (b : Bool). slice_get (if b then x ∷ kept_from named (suc 0) rows else kept_from named (suc 0) rows) 0) is
kept_at {R} named (x ∷ rows) (suc row) within is =
    let rest = kept_at (shifted named) rows row (omega arith) is in
    let P : Bool → Option R = λ b. slice_get (if b then x ∷ kept_from named (suc 0) rows else kept_from named (suc 0) rows) (new_number named (suc row)) in
    elim (cases_Bool (named 0)) [
      | inl first ↦
          ap P first
          ∙ ap (λ (n : ℕ). slice_get (x ∷ kept_from named (suc 0) rows) n) (number_kept named row first)
          ∙ ap (λ (ks : List R). slice_get ks (new_number (shifted named) row)) (kept_shift named 0 rows)
          ∙ rest
      | inr first ↦
          ap P first
          ∙ ap (λ (n : ℕ). slice_get (kept_from named (suc 0) rows) n) (number_left named row first)
          ∙ ap (λ (ks : List R). slice_get ks (new_number (shifted named) row)) (kept_shift named 0 rows)
          ∙ rest
    ]

-- the count of the rows that are kept is the new number behind the last row
pub length-kept_rows : {R : Type 0} (named : ℕ → Bool) (rows : List R) → length (kept_rows named rows) ≡ new_number named (length rows)
unfolding shifted
length-kept_rows named [] = refl
length-kept_rows {R} named (x ∷ rows) =
    let rest = length-kept_rows (shifted named) rows in
    let same = ap length (kept_shift named 0 rows) in
    let P : Bool → ℕ = λ b. length (if b then x ∷ kept_from named (suc 0) rows else kept_from named (suc 0) rows) in
    elim (cases_Bool (named 0)) [
      | inl first ↦ ap P first ∙ ap suc (same ∙ rest) ∙ sym (number_kept named (length rows) first)
      | inr first ↦ ap P first ∙ same ∙ rest ∙ sym (number_left named (length rows) first)
    ]

pub number_known : {R : Type 0} (named : ℕ → Bool) (rows : List R) (row : ℕ) → row < length rows → named row ≡ true →
    new_number named row < length (kept_rows named rows)
number_known named rows row within is = let rise = numbers_rise named row (length rows) within is in omega (arith, rise, length-kept_rows named rows)

-- what stands at a place of one list and then another one
get_left : {X : Type 0} (xs ys : List X) (k : ℕ) → k < length xs → slice_get (xs ++ ys) k ≡ slice_get xs k
get_left [] ys k within = absurd (omega arith)
get_left (x ∷ xs) ys zero within = refl
get_left (x ∷ xs) ys (suc k) within = get_left xs ys k (omega arith)

get_right : {X : Type 0} (xs ys : List X) (k n : ℕ) → n ≡ length xs + k → slice_get (xs ++ ys) n ≡ slice_get ys k
get_right [] ys k n is = let same : n ≡ k = omega (arith, is) in ap (slice_get ys) same
get_right (x ∷ xs) ys k zero is = absurd (omega (arith, is))
get_right (x ∷ xs) ys k (suc n) is = get_right xs ys k n (omega (arith, is))

-- the number of a row: its new one where it is kept, else one behind the rows that are kept
pub number_of : (ℕ → Bool) → ℕ → ℕ → ℕ
number_of named count row = cond (named row) (new_number named row) (count + row)

-- a row that is kept has its new number
pub number_of_kept : (named : ℕ → Bool) (count row : ℕ) → named row ≡ true → number_of named count row ≡ new_number named row
unfolding number_of
number_of_kept named count row is = ap (λ (b : Bool). cond b (new_number named row) (count + row)) is

pub rows_kept : {R : Type 0} (named : ℕ → Bool) (rows : List R) →
    KeepsRowsByNumber (number_of named (length (kept_rows named rows))) rows (kept_rows named rows ++ rows)
unfolding number_of
rows_kept {R} named rows =
    let kept = kept_rows named rows in
    let longer = length-append kept rows in
    record {
      known = λ k k_in. elim (cases_Bool (named k)) [
        | inl is ↦ rw is (let small = number_known named rows k k_in is in omega (arith, small, longer))
        | inr is ↦ rw is (omega (arith, longer))
      ];
      same = λ k k_in. elim (cases_Bool (named k)) [
        | inl is ↦ rw is (get_left kept rows (new_number named k) (number_known named rows k k_in is) ∙ kept_at named rows k k_in is)
        | inr is ↦ rw is (get_right kept rows k (length kept + k) refl)
      ];
      taken = All-append (Contains rows) kept rows (all_kept (Contains rows) named rows (itself rows)) (itself rows);
    }
  where
    itself : (xs : List R) → All (Contains xs) xs
    itself xs k d k_in = (k, k_in, get_or_default xs k (get_or xs k d) d k_in)

-- the forms of the rows are kept
pub keeps_forms : {R : Type 0} (form : R → Form) (number : ℕ → ℕ) (old new : List R) → KeepsRowsByNumber number old new →
    IsRenumbering number (map form old) (map form new)
keeps_forms form number old new keeps = record {
  known = λ k k_in. let here = keeps.known k (omega (arith, length-map old form)) in omega (arith, length-map new form);
  same = λ k k_in.
      let at = keeps.same k (omega (arith, length-map old form)) in
      sym (unwrap_or-slice_get (map form new) (number k) no_form)
      ∙ ap (λ (o : Option Form). unwrap_or o no_form) (slice_get-map form new (number k) ∙ ap (option_map form) at ∙ sym (slice_get-map form old k))
      ∙ unwrap_or-slice_get (map form old) k no_form;
}
