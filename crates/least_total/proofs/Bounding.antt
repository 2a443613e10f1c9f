-- What asking the source with a bound of the total does to the pool.
use Rattle.std.proofs.Common.{◌≡◌, ℕ, zero, suc, ◌≤◌, refl, sym, ◌∙◌, ap, subst, List, [], ◌∷◌, ◌++◌, length, length-append, take, drop, arith, append_assoc, append-nil, inl, inr}
use Rattle.std.specs.Prelude.{pos, ◌<ℤ◌, ◌≤ℤ◌, ◌⊎◌, All, Contains, Option, None, Some}
use Rattle.std.specs.Int.Signed.{clash_ℤ}
use Rattle.std.proofs.lemmas.List.{length-map, append_cancel_left}
use Rattle.std.proofs.lemmas.List.Elements.{All-nil, All-cons, All-head, All-tail, All-contains, All-push, All-weaker, Contains-append_cases, Contains-append_right, Contains-push}
use Rattle.area_graph.specs.declared.Point.{Point}
use Rattle.design_problem.specs.Forms.{Form, value_at, AreMet}
use Rattle.design_problem.specs.Problems.{DesignProblem}
use Rattle.design_problem.specs.Rows.{LeadsEach, form_of_row, forms_of_rows}
use Rattle.form_search.specs.Sources.{Grows, IsSourceAnswer}
use Rattle.form_search.specs.declared.source.Asked.{Asked}
use Rattle.form_search.specs.declared.source.Asked.TheVariants.{Nothing, Added}
use Rattle.cost_branching.specs.Asking.{AreAllRequestsAsked}
use Rattle.cost_branching.specs.Pools.{ArePoolRows}
use Rattle.cost_branching.specs.Rivals.{IsTrueRowForm, KnownRows}
use Rattle.least_total.specs.Totals.{LeadsWithin, form_of_total}
use Rattle.least_total.specs.Bounded.{IsPoolWithTotal, BoundedRows, IsPlaceIn, IsTrueTotal, IsTrueWithin, forms_with_total, with_form}

-- Forms with one among them.

all_without : {X : Type 0} (P : X → Type 0) (xs : List X) (x : X) (k : ℕ) → All P (take k xs ++ x ∷ drop k xs) → All P xs × P x
all_without P xs x zero all = (All-tail P x xs all, All-head P x xs all)
all_without P [] x (suc k) all = (All-nil P, All-head P x [] all)
all_without P (y ∷ xs) x (suc k) all =
    let rest = all_without P xs x k (All-tail P y (take k xs ++ x ∷ drop k xs) all) in
    (All-cons P y xs (All-head P y (take k xs ++ x ∷ drop k xs) all) rest.0, rest.1)

abbrev Met : Point → Form → Type 0
Met point form = pos 0 ≤ℤ value_at form point

-- where the pool's forms are at least 0, those of the rows are
pub rows_met : (old : BoundedRows) (pool : List Form) (point : Point) → IsPoolWithTotal old pool → AreMet pool point →
    AreMet (forms_of_rows old.known.problem old.known.rows) point
rows_met old pool point in_step met = by_place old.before (subst (λ (fs : List Form). All (Met point) fs) in_step.forms met)
  where
    by_place : (before : Option ℕ) →
        All (Met point) (forms_with_total old.known.problem old.most old.known.rows before) →
        All (Met point) (forms_of_rows old.known.problem old.known.rows)
    by_place None all = all
    by_place (Some k) all = (all_without (Met point) (forms_of_rows old.known.problem old.known.rows) (form_of_total old.known.problem old.most) k all).0

-- where the form of the total is negative, it hasn't come yet
pub not_come : (old : BoundedRows) (pool : List Form) (point : Point) → IsPoolWithTotal old pool → AreMet pool point →
    value_at (form_of_total old.known.problem old.most) point <ℤ pos 0 → old.before ≡ None
not_come old pool point in_step met negative = by_place old.before refl (subst (λ (fs : List Form). All (Met point) fs) in_step.forms met)
  where
    by_place : (before : Option ℕ) → old.before ≡ before →
        All (Met point) (forms_with_total old.known.problem old.most old.known.rows before) → old.before ≡ None
    by_place None is all = is
    by_place (Some k) is all = absurd
        (clash_ℤ negative
        (all_without (Met point) (forms_of_rows old.known.problem old.known.rows)
        (form_of_total old.known.problem old.most) k all).1)

with_more : (fs more : List Form) (f : Form) (k : ℕ) → k ≤ length fs → (take k fs ++ f ∷ drop k fs) ++ more ≡ take k (fs ++ more) ++ f ∷ drop k (fs ++ more)
with_more fs more f zero within = refl
with_more [] more f (suc k) within = absurd (omega arith)
with_more (g ∷ fs) more f (suc k) within = ap (λ (hs : List Form). g ∷ hs) (with_more fs more f k (omega arith))

form_with_more : (fs more : List Form) (f : Form) (before : Option ℕ) → IsPlaceIn (length fs) before →
    with_form before f fs ++ more ≡ with_form before f (fs ++ more)
form_with_more fs more f None place = refl
form_with_more fs more f (Some k) place = with_more fs more f k place

place_more : (n m : ℕ) (before : Option ℕ) → n ≤ m → IsPlaceIn n before → IsPlaceIn m before
place_more n m None more place = tt
place_more n m (Some k) more place = omega arith

-- The requests were asked.

-- the state behind the rows' part of an answer
abbrev pub after_rows : BoundedRows → KnownRows → BoundedRows
after_rows old new = record { known = new; most = old.most; before = old.before }

-- the rows that came bring their forms, and nothing else
pub in_step_after : (old : BoundedRows) (pool : List Form) (point : Point) (new : KnownRows) (grown : List Form)
    (asked : Asked) → IsPoolWithTotal old pool → AreAllRequestsAsked point old.known pool new grown asked →
    IsPoolWithTotal (after_rows old new) grown
in_step_after old pool point new grown asked in_step are =
    let p = old.known.problem in
    let rows = old.known.rows in
    let fs = forms_of_rows p rows in
    let total = form_of_total p old.most in
    let count : length rows ≡ length fs = sym (length-map rows (form_of_row p)) in
    let new_count = ap length are.rows ∙ length-append fs are.more in
    let longer : length rows ≤ length new.rows = omega (arith, count, new_count, length-map new.rows (form_of_row p)) in
    let place : IsPlaceIn (length fs) old.before = subst (λ (n : ℕ). IsPlaceIn n old.before) count in_step.place in
    let forms : grown ≡ forms_with_total p old.most new.rows old.before =
    are.forms ∙ ap (λ (gs : List Form). gs ++ are.more) in_step.forms
    ∙ form_with_more fs are.more total old.before place ∙ ap (with_form old.before total) (sym are.rows) in
    record {
      are_rows = subst (λ (q : DesignProblem). ArePoolRows q new.rows) (sym are.problem) are.are_rows;
      place = place_more (length rows) (length new.rows) old.before longer in_step.place;
      forms = forms ∙ ap (λ (q : DesignProblem). forms_with_total q old.most new.rows old.before) (sym are.problem);
    }

none_more : (fs more : List Form) → fs ++ more ≡ fs → more ≡ []
none_more fs more same = append_cancel_left fs more [] (same ∙ sym (append-nil fs))

-- a form of a pool whose forms are at least 0 isn't negative
not_in : (pool : List Form) (point : Point) (form : Form) → AreMet pool point → value_at form point <ℤ pos 0 → Contains pool form → ⊥
not_in pool point form met negative has = clash_ℤ negative (All-contains (Met point) pool form met has)

the_second : {A B : Type 0} → A ⊎ B → (A → ⊥) → B
the_second (inl a) no_a = absurd (no_a a)
the_second (inr b) no_a = b

-- where the form of the total is at least 0, the rows tell whether the point is accepted
pub answered_within : (old : BoundedRows) (pool : List Form) (point : Point) (new : KnownRows) (grown : List Form)
    (asked : Asked) → AreMet pool point → AreAllRequestsAsked point old.known pool new grown asked →
    pos 0 ≤ℤ value_at (form_of_total old.known.problem old.most) point →
    IsSourceAnswer (LeadsWithin old.known.problem old.most) point pool grown asked
answered_within old pool point new grown asked met are within = by_answer asked are.answer
  where
    p : DesignProblem
    p = old.known.problem

    fs : List Form
    fs = forms_of_rows old.known.problem old.known.rows

    by_answer : (asked : Asked) → IsSourceAnswer (LeadsEach old.known.problem) point
        (forms_of_rows old.known.problem old.known.rows) (forms_of_rows old.known.problem new.rows) asked →
        IsSourceAnswer (LeadsWithin old.known.problem old.most) point pool grown asked
    by_answer Nothing answer =
        let none = none_more fs are.more (sym are.rows ∙ answer.1) in
        (record { leads = answer.0; within = within }, are.forms ∙ ap (λ (gs : List Form). pool ++ gs) none ∙ append-nil pool)
    by_answer Added answer =
        let new_form = answer.1 in
        let here : Contains fs new_form.form ⊎ Contains are.more new_form.form =
        Contains-append_cases fs are.more new_form.form
        (subst (λ (gs : List Form). Contains gs new_form.form) are.rows new_form.is_new) in (
          λ accepted. answer.0 accepted.leads,
          record {
            form = new_form.form;
            is_new = subst (λ (gs : List Form). Contains gs new_form.form) (sym are.forms)
                (Contains-append_right pool are.more new_form.form (the_second here new_form.not_old));
            not_old = not_in pool point new_form.form met new_form.negative;
            negative = new_form.negative;
          },
        )

-- where it is negative, it comes, and the point isn't accepted
pub answered_over : (old : BoundedRows) (pool : List Form) (point : Point) (grown more : List Form) →
    AreMet pool point → value_at (form_of_total old.known.problem old.most) point <ℤ pos 0 →
    more ≡ grown ++ form_of_total old.known.problem old.most ∷ [] →
    IsSourceAnswer (LeadsWithin old.known.problem old.most) point pool more Added
answered_over old pool point grown more met negative same =
    let total = form_of_total old.known.problem old.most in (
      λ accepted. clash_ℤ negative accepted.within,
      record {
        form = total;
        is_new = subst (λ (fs : List Form). Contains fs total) (sym same) (Contains-push grown total);
        not_old = not_in pool point total met negative;
        negative = negative;
      },
    )

-- True forms came.

pub grows_within : (p : DesignProblem) (most : ℕ) (pool grown : List Form) → Grows (IsTrueRowForm p) pool grown → Grows (IsTrueWithin p most) pool grown
grows_within p most pool grown grows = record {
  more = grows.more;
  same = grows.same;
  more_true = All-weaker (IsTrueRowForm p) (IsTrueWithin p most) (λ form is. inl is) grows.more grows.more_true;
}

pub grows_over : (p : DesignProblem) (most : ℕ) (pool grown more : List Form) →
    IsTrueTotal p most (form_of_total p most) → Grows (IsTrueRowForm p) pool grown →
    more ≡ grown ++ form_of_total p most ∷ [] → Grows (IsTrueWithin p most) pool more
grows_over p most pool grown more is_true grows same =
    let total = form_of_total p most in
    let within = grows_within p most pool grown grows in
    record {
      more = within.more ++ total ∷ [];
      same = same ∙ ap (λ (fs : List Form). fs ++ total ∷ []) within.same ∙ append_assoc pool within.more (total ∷ []);
      more_true = All-push (IsTrueWithin p most) within.more total within.more_true (inr is_true);
    }

-- the form of the total has come behind all rows
pub in_step_over : (s t : BoundedRows) (grown more : List Form) → IsPoolWithTotal s grown → s.before ≡ None →
    t.known ≡ s.known → t.most ≡ s.most → t.before ≡ Some (length s.known.rows) →
    more ≡ grown ++ form_of_total s.known.problem s.most ∷ [] → IsPoolWithTotal t more
in_step_over s t grown more in_step none known most place same =
    let p = s.known.problem in
    let rows = s.known.rows in
    let fs = forms_of_rows p rows in
    let total = form_of_total p s.most in
    let n = length rows in
    let count : length fs ≡ n = length-map rows (form_of_row p) in
    let grown_is : grown ≡ fs = in_step.forms ∙ ap (λ (b : Option ℕ). forms_with_total p s.most rows b) none in
    let all : take n fs ++ total ∷ drop n fs ≡ fs ++ total ∷ [] = whole fs total n (omega (arith, count)) in
    let here : IsPoolWithTotal (record { known = s.known; most = s.most; before = Some n }) more = record {
      are_rows = in_step.are_rows;
      place = omega arith;
      forms = same ∙ ap (λ (gs : List Form). gs ++ total ∷ []) grown_is ∙ sym all;
    } in
    subst (λ (u : BoundedRows). IsPoolWithTotal u more) (same_state known most place) here
  where
    whole : (fs : List Form) (f : Form) (n : ℕ) → length fs ≤ n → take n fs ++ f ∷ drop n fs ≡ fs ++ f ∷ []
    whole [] f zero long = refl
    whole [] f (suc n) long = refl
    whole (g ∷ fs) f zero long = absurd (omega arith)
    whole (g ∷ fs) f (suc n) long = ap (λ (hs : List Form). g ∷ hs) (whole fs f n (omega arith))

    same_state : t.known ≡ s.known → t.most ≡ s.most → t.before ≡ Some (length s.known.rows) →
        (record { known = s.known; most = s.most; before = Some (length s.known.rows) }) ≡ t
    same_state k m b = λ i. record { known = sym k i; most = sym m i; before = sym b i }
