-- The uses of each variable where rows come, and what a row has in them.
use Rattle.std.specs.declared.alloc.Global.{Global}
use Rattle.std.proofs.Common.{Vec, ◌≡◌, ℕ, zero, suc, ◌+◌, ◌<◌, ◌≤◌, refl, sym, ◌∙◌, ap, List, [], ◌∷◌, ◌++◌, length, get_or, take, drop, subst, arith, add-zero, zero-add}
use Rattle.std.specs.Prelude.{ℤ, pos, negsuc, ◌+ℤ◌, nat_abs, slice_index_or, All, ◌≢◌, ◌==◌, false}
use Rattle.std.proofs.lemmas.Bool.{ne_eqb, eq-eqb}
use Rattle.std.proofs.lemmas.Int.{ints}
use Rattle.std.proofs.lemmas.List.{append-nil, append_assoc, get_or-map, length-map}
use Rattle.std.proofs.lemmas.List.Elements.{All-append, All-cons, All-nil}
use Rattle.cost_base.specs.Lists.{numbers_from}
use Rattle.cost_base.proofs.ListLemmas.{length-numbers_from, get_or-map-numbers_from}
use Rattle.whole_numbers.specs.Lists.{number_at}
use Rattle.design_problem.specs.declared.form.Form.{Form}
use Rattle.design_problem.specs.Forms.{no_form}
use Rattle.design_problem.proofs.Tallies.{tabulated}
use Rattle.integer_pivots.specs.declared.uses.Use.{Use}
use Rattle.integer_pivots.specs.Uses.{coefficient_in, uses_in, size_in, use_of, uses_by, uses_from}
use Rattle.integer_pivots.proofs.WrittenPlaces.{written}

-- lists that hold the same are the uses of the same rows
pub uses_kept : (lists news : List (Vec Use Global)) (rows others : List Form) (n m : ℕ) →
    uses_in news ≡ uses_in lists → others ≡ rows → m ≡ n → uses_in lists ≡ uses_by rows n →
    uses_in news ≡ uses_by others m
uses_kept lists news rows others n m same rows_are n_is are =
    same ∙ are ∙ ap (λ (fs : List Form). uses_by fs n) (sym rows_are) ∙ ap (uses_by others) (sym n_is)

-- there is a list for each variable, with its uses
pub lists_many : (lists : List (Vec Use Global)) (rows : List Form) (n : ℕ) → uses_in lists ≡ uses_by rows n → length lists ≡ n
lists_many lists rows n are =
    sym (length-map lists (λ (list : Vec Use Global). list.items))
    ∙ ap length are
    ∙ length-map (numbers_from 0 n) (uses_from 0 rows)
    ∙ length-numbers_from 0 n

pub list_at : (lists : List (Vec Use Global)) (rows : List Form) (n v : ℕ) → uses_in lists ≡ uses_by rows n → v < n →
    slice_index_or (uses_in lists) v [] ≡ uses_from 0 rows v
list_at lists rows n v are v_in =
    ap (λ (us : List (List Use)). slice_index_or us v []) are
    ∙ get_or-map-numbers_from (uses_from 0 rows) 0 n v [] v_in
    ∙ ap (uses_from 0 rows) (zero-add v)

-- a row more uses a variable once at most
uses_append : (first : ℕ) (rows : List Form) (f : Form) (v : ℕ) →
    uses_from first (rows ++ f ∷ []) v ≡ uses_from first rows v ++ use_of (first + length rows)
    (number_at f.coefficients v)
uses_append first [] f v = append-nil (use_of first (number_at f.coefficients v)) ∙ ap (λ (k : ℕ). use_of k (number_at f.coefficients v)) (sym (add-zero first))
uses_append first (g ∷ rows) f v =
    ap (λ (us : List Use). use_of first (number_at g.coefficients v) ++ us)
    (uses_append (suc first) rows f v
    ∙ ap (λ (k : ℕ). uses_from (suc first) rows v ++ use_of k (number_at f.coefficients v))
    (let e : suc first + length rows ≡ first + suc (length rows) = omega arith in e))
    ∙ sym (append_assoc (use_of first (number_at g.coefficients v)) (uses_from (suc first) rows v)
    (use_of (first + suc (length rows)) (number_at f.coefficients v)))

pub uses_grown : (lists news : List (Vec Use Global)) (rows : List Form) (f : Form) (n : ℕ) →
    uses_in lists ≡ uses_by rows n → length news ≡ length lists →
    ((v : ℕ) → v < length lists → slice_index_or (uses_in news) v [] ≡ slice_index_or (uses_in lists) v []
    ++ use_of (length rows) (number_at f.coefficients v)) → uses_in news ≡ uses_by (rows ++ f ∷ []) n
uses_grown lists news rows f n are long each =
    let many = lists_many lists rows n are in
    tabulated [] (uses_in news) (uses_from 0 (rows ++ f ∷ [])) n (length-map news (λ (list : Vec Use Global). list.items) ∙ long ∙ many)
    (λ v v_in.
    each v (omega (arith, v_in, many))
    ∙ ap (λ (us : List Use). us ++ use_of (length rows) (number_at f.coefficients v)) (list_at lists rows n v are v_in)
    ∙ ap (λ (k : ℕ). uses_from 0 rows v ++ use_of k (number_at f.coefficients v)) (sym (zero-add (length rows)))
    ∙ sym (uses_append 0 rows f v))

-- what code leaves where it puts a row's uses
pub uses_put : (n many width : ℕ) (olds lent news : List (Vec Use Global)) (rows : List Form) (f : Form) →
    uses_in olds ≡ uses_by rows width → lent ≡ olds → n ≡ length olds → many ≡ length rows → length news ≡ length lent →
    ((v : ℕ) → v < length lent → slice_index_or (uses_in news) v [] ≡ slice_index_or (uses_in lent) v []
    ++ use_of many (number_at f.coefficients v)) →
    uses_in (take n (news ++ drop (length news) olds)) ≡ uses_by (rows ++ f ∷ []) width
uses_put n many width olds lent news rows f are same counted many_is long each =
    let kept = subst (λ (ls : List (Vec Use Global)). (v : ℕ) → v < length ls →
    slice_index_or (uses_in news) v [] ≡ slice_index_or (uses_in ls) v []
    ++ use_of many (number_at f.coefficients v)) same each in
    let all : length news ≡ length olds = long ∙ ap length same in
    ap uses_in (written n news olds all counted)
    ∙ uses_grown olds news rows f width are all (λ v v_in. kept v v_in
    ∙ ap (λ (k : ℕ). slice_index_or (uses_in olds) v [] ++ use_of k (number_at f.coefficients v)) many_is)

-- and where it makes room
pub uses_lent : (n : ℕ) (olds lent news : List (Vec Use Global)) → lent ≡ olds → n ≡ length olds →
    length news ≡ length lent → uses_in news ≡ uses_in lent →
    uses_in (take n (news ++ drop (length news) olds)) ≡ uses_in olds
uses_lent n olds lent news same counted long kept = ap uses_in (written n news olds (long ∙ ap length same) counted) ∙ kept ∙ ap uses_in same

-- each use is by one of the rows
abbrev pub IsOfRows : ℕ → ℕ → Use → Type 0
IsOfRows first many u = (first ≤ u.row) × (u.row < first + many)

use_within : (first many row : ℕ) (c : ℤ) → first ≤ row → row < first + many → All (IsOfRows first many) (use_of row c)
use_within first many row (pos zero) low high = All-nil (IsOfRows first many)
use_within first many row (pos (suc n)) low high =
    All-cons (IsOfRows first many) (record { row = row; coefficient = pos (suc n) }) [] (low, high)
    (All-nil (IsOfRows first many))
use_within first many row (negsuc n) low high =
    All-cons (IsOfRows first many) (record { row = row; coefficient = negsuc n }) [] (low, high)
    (All-nil (IsOfRows first many))

pub uses_within : (first : ℕ) (rows : List Form) (v : ℕ) → All (IsOfRows first (length rows)) (uses_from first rows v)
uses_within first [] v = All-nil (IsOfRows first 0)
uses_within first (f ∷ rows) v =
    All-append (IsOfRows first (suc (length rows))) (use_of first (number_at f.coefficients v)) (uses_from (suc first) rows v)
    (use_within first (suc (length rows)) first (number_at f.coefficients v) (omega arith) (omega arith))
    (λ k d k_in. (let w = uses_within (suc first) rows v k d k_in in (omega (arith, w.0), omega (arith, w.1))))

-- what a row has with one use more: its own, or another row's
pub own_rest : (u : Use) (us : List Use) → (coefficient_in (u ∷ us) u.row ≡ (u.coefficient +ℤ coefficient_in us u.row))
    × (size_in (u ∷ us) u.row ≡ nat_abs u.coefficient + size_in us u.row)
own_rest u us = (rw (eq-eqb u.row u.row refl) refl, rw (eq-eqb u.row u.row refl) refl)

pub other_rest : (u : Use) (us : List Use) (row : ℕ) → row ≢ u.row →
    (coefficient_in (u ∷ us) row ≡ coefficient_in us row) × (size_in (u ∷ us) row ≡ size_in us row)
other_rest u us row apart =
    let other : (u.row == row) ≡ false = ne_eqb u.row row (λ (same : u.row ≡ row). apart (sym same)) in
    (rw other (omega (arith, ints)), rw other (zero-add (size_in us row)))

own_use : (row : ℕ) (c : ℤ) (us : List Use) → (coefficient_in (use_of row c ++ us) row ≡ (c +ℤ coefficient_in us row))
    × (size_in (use_of row c ++ us) row ≡ nat_abs c + size_in us row)
own_use row (pos zero) us = (omega (arith, ints), omega arith)
own_use row (pos (suc n)) us = own_rest (record { row = row; coefficient = pos (suc n) }) us
own_use row (negsuc n) us = own_rest (record { row = row; coefficient = negsuc n }) us

other_use : (first : ℕ) (c : ℤ) (us : List Use) (row : ℕ) → row ≢ first →
    (coefficient_in (use_of first c ++ us) row ≡ coefficient_in us row)
    × (size_in (use_of first c ++ us) row ≡ size_in us row)
other_use first (pos zero) us row apart = (refl, refl)
other_use first (pos (suc n)) us row apart = other_rest (record { row = first; coefficient = pos (suc n) }) us row apart
other_use first (negsuc n) us row apart = other_rest (record { row = first; coefficient = negsuc n }) us row apart

-- a row has nothing in the uses by rows after it, and its coefficient in those by rows among which it is
none_later : (first : ℕ) (rows : List Form) (v row : ℕ) → row < first →
    (coefficient_in (uses_from first rows v) row ≡ pos 0) × (size_in (uses_from first rows v) row ≡ 0)
none_later first [] v row before = (refl, refl)
none_later first (f ∷ rows) v row before =
    let here = other_use first (number_at f.coefficients v) (uses_from (suc first) rows v) row (λ (same : row ≡ first). absurd (omega (arith, before, same))) in
    let rest = none_later (suc first) rows v row (omega (arith, before)) in
    (here.0 ∙ rest.0, here.1 ∙ rest.1)

pub row_told : (first : ℕ) (rows : List Form) (v row : ℕ) →
    (coefficient_in (uses_from first rows v) (first + row) ≡ number_at (get_or rows row no_form).coefficients v)
    × (size_in (uses_from first rows v) (first + row) ≡ nat_abs (number_at (get_or rows row no_form).coefficients v))
row_told first [] v row = (refl, refl)
row_told first (f ∷ rows) v zero =
    let here = own_use first (number_at f.coefficients v) (uses_from (suc first) rows v) in
    let rest = none_later (suc first) rows v first (omega arith) in
    let same : first ≡ first + 0 = sym (add-zero first) in
    let coefficient : coefficient_in (uses_from first (f ∷ rows) v) first ≡ number_at f.coefficients v = omega (arith, ints, here.0, rest.0) in
    let size : size_in (uses_from first (f ∷ rows) v) first ≡ nat_abs (number_at f.coefficients v) = omega (arith, here.1, rest.1) in
    (ap (coefficient_in (uses_from first (f ∷ rows) v)) (sym same) ∙ coefficient, ap (size_in (uses_from first (f ∷ rows) v)) (sym same) ∙ size)
row_told first (f ∷ rows) v (suc row) =
    let us = uses_from (suc first) rows v in
    let here = other_use first (number_at f.coefficients v) us (first + suc row) (λ (same : first + suc row ≡ first). absurd (omega (arith, same))) in
    let next : first + suc row ≡ suc first + row = omega arith in
    let rest = row_told (suc first) rows v row in
    (here.0 ∙ ap (coefficient_in us) next ∙ rest.0, here.1 ∙ ap (size_in us) next ∙ rest.1)

-- a list that is read holds the variable's uses
pub list_read : (lists : List (Vec Use Global)) (rows : List Form) (v : ℕ) (list : Vec Use Global) →
    uses_in lists ≡ uses_by rows (length lists) → v < length lists → list ≡ get_or lists v list →
    list.items ≡ uses_from 0 rows v
list_read lists rows v list are v_in is =
    ap (λ (l : Vec Use Global). l.items) is ∙ sym (get_or-map (λ (l : Vec Use Global). l.items) lists v list [] v_in)
    ∙ list_at lists rows (length lists) v are v_in
