-- What asking one more form of a list leaves.
use Rattle.std.proofs.Common.{◌≡◌, ℕ, ◌+◌, ◌<◌, ◌≤◌, refl, sym, ◌∙◌, ap, subst, inl, inr, List, [], ◌∷◌, ◌++◌, length, append_assoc, append-nil, arith}
use Rattle.std.specs.Prelude.{ℤ, pos, ◌<ℤ◌, ◌≤ℤ◌, All, Contains, Bool, true, false}
use Rattle.std.proofs.lemmas.Int.{ints}
use Rattle.std.proofs.lemmas.Bool.{cases_lt}
use Rattle.std.proofs.lemmas.List.{get_or_default}
use Rattle.std.proofs.lemmas.List.Elements.{All-append, All-cons, All-nil, Contains-push}
use Rattle.area_graph.specs.declared.Point.{Point}
use Rattle.design_problem.specs.Forms.{Form, form_at, no_form, value_at, AreMet}
use Rattle.form_search.specs.Sources.{Grows, HasNewForm, IsSourceAnswer}
use Rattle.form_search.specs.declared.source.Asked.{Asked}
use Rattle.form_search.specs.declared.source.Asked.TheVariants.{Nothing, Added}
use Rattle.search_cases.specs.SmallForms.{AnswersFormsBelow, AreFormsAsked, IsFormAsked, IsTiny, IsTrueSmallForm, SmallForms, answer_so_far}

-- before the first form
pub asked_none : (list : SmallForms) (point : Point) (old : List Form) → AreFormsAsked list point 0 old old Nothing
asked_none list point old = record {
  grows = record { more = []; same = sym (append-nil old); more_true = All-nil (IsTrueSmallForm list) };
  answer = (refl, λ k k_in. absurd (omega arith));
}

listed : (list : SmallForms) (k : ℕ) → All (IsTiny list.variables) list.forms → k < length list.forms → IsTrueSmallForm list (form_at list.forms k)
listed list k tiny k_in = record {
  listed = (k, k_in, get_or_default list.forms k (form_at list.forms k) no_form k_in);
  tiny = tiny k no_form k_in;
}

all_below : (forms : List Form) (point : Point) (count : ℕ) →
    ((k : ℕ) → k < count → pos 0 ≤ℤ value_at (form_at forms k) point) → pos 0 ≤ℤ value_at (form_at forms count) point →
    (k : ℕ) → k < count + 1 → pos 0 ≤ℤ value_at (form_at forms k) point
all_below forms point count before here k k_in =
    elim (cases_lt k count) [
      | inl less ↦ before k less
      | inr not ↦ subst (λ (i : ℕ). pos 0 ≤ℤ value_at (form_at forms i) point) (let e : count ≡ k = omega (arith, k_in, not) in e) here
    ]

kept : (list : SmallForms) (point : Point) (count : ℕ) (old mid new : List Form) (asked : Asked) →
    AnswersFormsBelow list.forms point count old mid asked → pos 0 ≤ℤ value_at (form_at list.forms count) point → new ≡ mid →
    AnswersFormsBelow list.forms point (count + 1) old new asked
kept list point count old mid new Nothing answer here same = (same ∙ answer.0, all_below list.forms point count answer.1 here)
kept list point count old mid new Added answer here same = (answer.0, subst (λ (fs : List Form). HasNewForm point old fs) (sym same) answer.1)

-- one more form
pub asked_more : (list : SmallForms) (point : Point) (count : ℕ) (old mid new : List Form) (asked : Asked)
    (added : Bool) → All (IsTiny list.variables) list.forms → AreMet old point → count < length list.forms →
    AreFormsAsked list point count old mid asked → IsFormAsked point (form_at list.forms count) mid new added →
    AreFormsAsked list point (count + 1) old new (answer_so_far asked added)
asked_more list point count old mid new asked false tiny met count_in before one = record {
  grows = subst (λ (fs : List Form). Grows (IsTrueSmallForm list) old fs) (sym one.1) before.grows;
  answer = kept list point count old mid new asked before.answer one.0 one.1;
}
asked_more list point count old mid new asked true tiny met count_in before one = record {
  grows = record {
    more = before.grows.more ++ form_at list.forms count ∷ [];
    same = one.1 ∙ ap (λ (fs : List Form). fs ++ form_at list.forms count ∷ []) before.grows.same
        ∙ append_assoc old before.grows.more (form_at list.forms count ∷ []);
    more_true =
        All-append (IsTrueSmallForm list) before.grows.more (form_at list.forms count ∷ []) before.grows.more_true
        (All-cons (IsTrueSmallForm list) (form_at list.forms count) [] (listed list count tiny count_in) (All-nil (IsTrueSmallForm list)));
  };
  answer = (
    λ all. never (value_at (form_at list.forms count) point) one.0 (all count no_form count_in),
    record {
      form = form_at list.forms count;
      is_new = subst (λ (fs : List Form). Contains fs (form_at list.forms count)) (sym one.1) (Contains-push mid (form_at list.forms count));
      not_old = λ is.
          never (value_at (form_at list.forms count) point) one.0
          (subst (λ (f : Form). pos 0 ≤ℤ value_at f point) is.2 (met is.0 (form_at list.forms count) is.1));
      negative = one.0;
    },
  );
}
  where
    never : (v : ℤ) → v <ℤ pos 0 → pos 0 ≤ℤ v → ⊥
    never v negative not = omega (arith, ints)

-- all were asked
pub asked_all : (list : SmallForms) (point : Point) (count : ℕ) (old new : List Form) (asked : Asked) →
    length list.forms ≤ count → AreFormsAsked list point count old new asked →
    IsSourceAnswer (AreMet list.forms) point old new asked
asked_all list point count old new Nothing all are = (
  λ k d k_in. subst (λ (f : Form). pos 0 ≤ℤ value_at f point) (sym (get_or_default list.forms k d no_form k_in)) (are.answer.1 k (omega (arith, k_in, all))),
  are.answer.0,
)
asked_all list point count old new Added all are = are.answer
