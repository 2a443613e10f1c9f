-- Rows that are gone through in order.
use Rattle.std.proofs.Common.{◌≡◌, ℕ, ◌+◌, ◌<◌, refl, sym, ◌∙◌, subst, List, length, drop, get_or, inl, inr, below_more}
use Rattle.std.specs.Prelude.{slice_get, Option, Some, None, MatchOption}
use Rattle.std.proofs.lemmas.List.{get_or_default}
use Rattle.cost_base.specs.Order.{FirstOf, NoneOf}
use Rattle.cost_base.proofs.ListLemmas.{drop_read}
use Rattle.area_graph.specs.Area.{Area}
use Rattle.design_problem.specs.declared.form.Row.{Row}
use Rattle.design_problem.specs.declared.problem.Request.{Request}
use Rattle.design_problem.specs.Problems.{DesignProblem}
use Rattle.design_problem.specs.Rows.{IsRow, IsRivalOf, path_edges}
use Rattle.design_problem.proofs.RowForms.{route_of_rival}
use Rattle.evidence_checker.specs.Refusals.{FailedTest, AtFirstItem}
use Rattle.evidence_checker.specs.Tests.{row_tests}

rival_is_other : (g : Area) (r : Option Request) (es : List ℕ) → IsRivalOf g r es → es ≡ path_edges r → ⊥
rival_is_other g None es rival same = rival
rival_is_other g (Some r) es rival same = rival.1 same

-- a rival row fails no test
pub row_meets_none : (p : DesignProblem) (row : Row) → IsRow p row → NoneOf (row_tests p row)
row_meets_none p row is_row = (
  λ n failed. failed.1 (route_of_rival p.graph (slice_get p.requests row.request) row.rival is_row),
  (λ n failed. rival_is_other p.graph (slice_get p.requests row.request) row.rival is_row failed.1, tt),
)

-- the first faulty row of all, by the rows that are left
abbrev pub FirstIsLeft : DesignProblem → List Row → ℕ → Type 0
FirstIsLeft p rows k = (f : FailedTest) → AtFirstItem (row_tests p) k (drop k rows) f → AtFirstItem (row_tests p) 0 rows f

pub first_goes_on : (p : DesignProblem) (rows : List Row) (k : ℕ) (row : Row) → k < length rows →
    row ≡ get_or rows k row → IsRow p row → FirstIsLeft p rows k → FirstIsLeft p rows (k + 1)
first_goes_on p rows k row k_in e is_row left f failed =
    left f (subst (λ (xs : List Row). AtFirstItem (row_tests p) k xs f) (sym (drop_read rows k row k_in e)) (inr (row_meets_none p row is_row, failed)))

pub first_is_here : (p : DesignProblem) (rows : List Row) (k number : ℕ) (row : Row) → k < length rows →
    row ≡ get_or rows k row → FirstOf (row_tests p row) number → FirstIsLeft p rows k →
    AtFirstItem (row_tests p) 0 rows (record { number = number; place = k })
first_is_here p rows k number row k_in e failed left =
    let f : FailedTest = record { number = number; place = k } in
    left f (subst (λ (xs : List Row). AtFirstItem (row_tests p) k xs f) (sym (drop_read rows k row k_in e)) (inl (refl, failed)))

pub rows_more : (p : DesignProblem) (rows : List Row) (k : ℕ) (row : Row) → k < length rows → row ≡ get_or rows k row →
    IsRow p row → ((j : ℕ) (d : Row) → j < k → IsRow p (get_or rows j d)) → (j : ℕ) (d : Row) → j < k + 1 →
    IsRow p (get_or rows j d)
rows_more p rows k row k_in is is_row before j d j_in =
    below_more (λ (i : ℕ). (e : Row) → IsRow p (get_or rows i e)) k (λ i i_in e. before i e i_in)
    (λ e. subst (IsRow p) (is ∙ get_or_default rows k row e k_in) is_row) j j_in d

-- what the first test says, where it is known whether there is one
pub at_none : {X : Type 0} (A : Type 0) (B : X → Type 0) (o : Option X) → o ≡ None → MatchOption o A B → A
at_none {X} A B o e h = let P : Option X → Type 0 = λ x. MatchOption x A B in subst P e h

pub at_some : {X : Type 0} (A : Type 0) (B : X → Type 0) (o : Option X) (n : X) → o ≡ Some n → MatchOption o A B → B n
at_some {X} A B o n e h = let P : Option X → Type 0 = λ x. MatchOption x A B in subst P e h
