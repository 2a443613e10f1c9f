-- The uses of a row that are put at the end of the lists of its variables, term by term.
use Rattle.std.specs.declared.alloc.Global.{Global}
use Rattle.std.proofs.Common.{Vec, ◌≡◌, ℕ, zero, suc, ◌+◌, ◌<◌, ◌≤◌, refl, sym, ◌∙◌, ap, subst, List, [], ◌∷◌, ◌++◌, length, get_or, set, arith, below_more, inl, inr}
use Rattle.std.specs.Prelude.{ℤ, pos, negsuc, nat_abs, slice_index_or, All, AllPairs, ◌≢◌}
use Rattle.std.proofs.lemmas.Int.{ints}
use Rattle.std.proofs.lemmas.List.{append-nil, get_or-map, get_or-set_other, get_or-set_same, length-set, map-set}
use Rattle.std.proofs.lemmas.List.Elements.{All-cons, All-nil}
use Rattle.whole_numbers.specs.Lists.{number_at}
use Rattle.design_problem.specs.declared.form.Form.{Form}
use Rattle.design_problem.specs.declared.form.Term.{Term}
use Rattle.design_problem.specs.Forms.{terms_from, terms_of, no_term}
use Rattle.design_problem.proofs.TermLaws.{rising_from, term_coefficient, term_or_zero, terms_known}
use Rattle.integer_pivots.specs.declared.uses.Use.{Use}
use Rattle.integer_pivots.specs.Numbers.{AllWithin}
use Rattle.integer_pivots.specs.Uses.{uses_in, use_of}
use Rattle.integer_pivots.proofs.Sizes.{number_within}

-- no term has coefficient 0
pub some_from : (first : ℕ) (cs : List ℤ) → All (λ t. t.coefficient ≢ pos 0) (terms_from first cs)
some_from first [] = All-nil (λ (t : Term). t.coefficient ≢ pos 0)
some_from first (pos zero ∷ cs) = some_from (suc first) cs
some_from first (pos (suc n) ∷ cs) =
    All-cons (λ (t : Term). t.coefficient ≢ pos 0) (record { var = first; coefficient = pos (suc n) })
    (terms_from (suc first) cs) (λ (same : pos (suc n) ≡ pos 0). absurd (omega (arith, ints, same)))
    (some_from (suc first) cs)
some_from first (negsuc n ∷ cs) =
    All-cons (λ (t : Term). t.coefficient ≢ pos 0) (record { var = first; coefficient = negsuc n })
    (terms_from (suc first) cs) (λ (same : negsuc n ≡ pos 0). absurd (omega (arith, ints, same)))
    (some_from (suc first) cs)

single : (row : ℕ) (c : ℤ) → c ≢ pos 0 → use_of row c ≡ (let u : Use = record { row = row; coefficient = c } in u) ∷ []
single row (pos zero) some = absurd (some refl)
single row (pos (suc n)) some = refl
single row (negsuc n) some = refl

-- a term's coefficient is one of the form's
pub term_within : (f : Form) (ts : List Term) (index most : ℕ) → ts ≡ terms_of f → index < length ts → AllWithin most f.coefficients →
    nat_abs (get_or ts index no_term).coefficient ≤ most
term_within f ts index most are index_in within =
    let there : index < length (terms_of f) = omega (arith, index_in, ap length are) in
    subst (λ (us : List Term). nat_abs (get_or us index no_term).coefficient ≤ most) (sym are)
    (subst (λ (z : ℤ). nat_abs z ≤ most) (term_coefficient f index no_term there)
    (number_within most f.coefficients (get_or (terms_of f) index no_term).var within))

-- the uses by the terms before an index are put
pub record ArePushed (row : ℕ) (ts : List Term) (index : ℕ) (olds news : List (Vec Use Global)) : Type 0 where
  pub done : (k : ℕ) → k < index → slice_index_or (uses_in news) (get_or ts k no_term).var []
      ≡ slice_index_or (uses_in olds) (get_or ts k no_term).var []
      ++ (let u : Use = record { row = row; coefficient = (get_or ts k no_term).coefficient } in u) ∷ []
  pub rest : (v : ℕ) → ((k : ℕ) → k < index → (get_or ts k no_term).var ≢ v) → (d : Vec Use Global) → get_or news v d ≡ get_or olds v d

pub none_pushed : (row : ℕ) (ts : List Term) (olds : List (Vec Use Global)) → ArePushed row ts 0 olds olds
none_pushed row ts olds = record { done = λ k k_in. absurd (omega (arith, k_in)); rest = λ v apart d. refl }

-- the list of the next term's variable is as it was
pub next_list : (row : ℕ) (f : Form) (ts : List Term) (index : ℕ) (olds news : List (Vec Use Global))
    (d : Vec Use Global) → ts ≡ terms_of f → index < length ts → ArePushed row ts index olds news →
    get_or news (get_or ts index no_term).var d ≡ get_or olds (get_or ts index no_term).var d
next_list row f ts index olds news d are index_in p =
    let rising : AllPairs (λ (t u : Term). t.var < u.var) ts = subst (AllPairs (λ (t u : Term). t.var < u.var)) (sym are) (rising_from 0 f.coefficients) in
    p.rest (get_or ts index no_term).var (λ k k_in (same : (get_or ts k no_term).var ≡ (get_or ts index no_term).var).
    absurd (omega (arith, same, rising k index no_term k_in index_in))) d

pub push_next : (row : ℕ) (f : Form) (ts : List Term) (index : ℕ) (olds news : List (Vec Use Global))
    (list d : Vec Use Global) (c : ℤ) → ts ≡ terms_of f → index < length ts → length f.coefficients ≤ length olds →
    length news ≡ length olds → list.items ≡ (get_or news (get_or ts index no_term).var d).items
    ++ (let u : Use = record { row = row; coefficient = c } in u) ∷ [] → c ≡ (get_or ts index no_term).coefficient →
    ArePushed row ts index olds news → ArePushed row ts (index + 1) olds (set news (get_or ts index no_term).var list)
push_next row f ts index olds news list d c are index_in count long list_is c_is p =
    let t = get_or ts index no_term in
    let known : t.var < length f.coefficients = subst (All (λ (u : Term). u.var < length f.coefficients)) (sym are) (terms_known f) index no_term index_in in
    let v_in : t.var < length olds = omega (arith, known, count) in
    let rising : AllPairs (λ (a b : Term). a.var < b.var) ts = subst (AllPairs (λ (a b : Term). a.var < b.var)) (sym are) (rising_from 0 f.coefficients) in
    let written : uses_in (set news t.var list) ≡ set (uses_in news) t.var list.items = map-set (λ (l : Vec Use Global). l.items) news t.var list in
    record {
      done = below_more (λ (k : ℕ). slice_index_or (uses_in (set news t.var list)) (get_or ts k no_term).var []
          ≡ slice_index_or (uses_in olds) (get_or ts k no_term).var []
          ++ (let u : Use = record { row = row; coefficient = (get_or ts k no_term).coefficient } in u) ∷ []) index
          (λ k k_in.
          ap (λ (us : List (List Use)). slice_index_or us (get_or ts k no_term).var []) written
          ∙ get_or-set_other (uses_in news) t.var (get_or ts k no_term).var list.items []
          (λ (same : (get_or ts k no_term).var ≡ t.var).
          absurd (omega (arith, same, rising k index no_term k_in index_in)))
          ∙ p.done k k_in)
          (get_or-map (λ (l : Vec Use Global). l.items) (set news t.var list) t.var list []
          (let e : t.var < length (set news t.var list) =
          omega (arith, v_in, long, length-set news t.var list) in e)
          ∙ ap (λ (l : Vec Use Global). l.items) (get_or-set_same news t.var list list (omega (arith, v_in, long)))
          ∙ list_is
          ∙ ap (λ (z : ℤ). (get_or news t.var d).items ++ (let u : Use = record { row = row; coefficient = z } in u) ∷ []) c_is
          ∙ ap (λ (l : Vec Use Global). l.items ++ (let u : Use = record { row = row; coefficient = t.coefficient } in
          u) ∷ []) (next_list row f ts index olds news d are index_in p)
          ∙ ap (λ (us : List Use). us ++ (let u : Use = record { row = row; coefficient = t.coefficient } in u) ∷ [])
          (sym (get_or-map (λ (l : Vec Use Global). l.items) olds t.var d [] v_in)));
      rest = λ v apart e. get_or-set_other news t.var v list e
          (λ (same : v ≡ t.var). apart index (omega arith) (sym same))
          ∙ p.rest v (λ k k_in. apart k (omega (arith, k_in))) e;
    }

-- the uses by all terms are put
pub all_pushed : (row : ℕ) (f : Form) (ts : List Term) (index : ℕ) (olds news : List (Vec Use Global)) (v : ℕ) →
    ts ≡ terms_of f → length ts ≤ index → index ≤ length ts → length news ≡ length olds → v < length olds →
    ArePushed row ts index olds news → slice_index_or (uses_in news) v [] ≡ slice_index_or (uses_in olds) v []
    ++ use_of row (number_at f.coefficients v)
all_pushed row f ts index olds news v are past most long v_in p =
    elim (term_or_zero f v no_term) [
      | inl none ↦
          let some : All (λ (t : Term). t.coefficient ≢ pos 0) (terms_of f) = some_from 0 f.coefficients in
          let apart : (k : ℕ) → k < index → (get_or ts k no_term).var ≢ v = λ k k_in same. (
          let there : k < length (terms_of f) = omega (arith, k_in, most, ap length are) in
          let same_there : (get_or (terms_of f) k no_term).var ≡ v = ap (λ (us : List Term). (get_or us k no_term).var) (sym are) ∙ same in
          some k no_term there (sym (term_coefficient f k no_term there) ∙ ap (number_at f.coefficients) same_there ∙ none)
          ) in
          held_at news olds v v_in long (λ d. p.rest v apart d)
          ∙ sym (append-nil (slice_index_or (uses_in olds) v []))
          ∙ ap (λ (c : ℤ). slice_index_or (uses_in olds) v [] ++ use_of row c) (sym none)
      | inr has ↦
          let k = has.0 in
          let there : k < length ts = omega (arith, has.1, ap length are) in
          let var_is : (get_or ts k no_term).var ≡ v = ap (λ (us : List Term). (get_or us k no_term).var) are ∙ has.2 in
          let c_is : number_at f.coefficients v ≡ (get_or ts k no_term).coefficient =
          ap (number_at f.coefficients) (sym has.2) ∙ term_coefficient f k no_term has.1
          ∙ ap (λ (us : List Term). (get_or us k no_term).coefficient) (sym are) in
          let c_some : (get_or ts k no_term).coefficient ≢ pos 0 =
          subst (All (λ (t : Term). t.coefficient ≢ pos 0)) (sym are) (some_from 0 f.coefficients) k
          no_term there in
          subst (λ (w : ℕ). slice_index_or (uses_in news) w [] ≡ slice_index_or (uses_in olds) w [] ++ use_of row (number_at f.coefficients v)) var_is
          (p.done k (omega (arith, there, past))
          ∙ ap (λ (us : List Use). slice_index_or (uses_in olds) (get_or ts k no_term).var [] ++ us) (sym (single row (get_or ts k no_term).coefficient c_some))
          ∙ ap (λ (c : ℤ). slice_index_or (uses_in olds) (get_or ts k no_term).var [] ++ use_of row c) (sym c_is))
    ]
  where
    held_at : (news olds : List (Vec Use Global)) (v : ℕ) → v < length olds → length news ≡ length olds →
        ((d : Vec Use Global) → get_or news v d ≡ get_or olds v d) →
        slice_index_or (uses_in news) v [] ≡ slice_index_or (uses_in olds) v []
    held_at news [] v v_in long same = absurd (omega arith)
    held_at news (d ∷ olds) v v_in long same =
        get_or-map (λ (l : Vec Use Global). l.items) news v d [] (omega (arith, v_in, long))
        ∙ ap (λ (l : Vec Use Global). l.items) (same d)
        ∙ sym (get_or-map (λ (l : Vec Use Global). l.items) (d ∷ olds) v d [] v_in)
