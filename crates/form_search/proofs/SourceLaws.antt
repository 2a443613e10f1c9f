-- One call of a source after another: what they leave of the source, and of the pool.
use Rattle.std.proofs.Common.{◌≡◌, ℕ, refl, sym, ◌∙◌, ap, subst, List, [], ◌++◌, append_assoc, append-nil, Ok}
use Rattle.std.specs.Prelude.{All, Result, Err, IsErr, OnOk}
use Rattle.std.proofs.lemmas.Bool.{false≢true}
use Rattle.std.proofs.lemmas.List.Elements.{All-append, All-nil}
use Rattle.area_graph.specs.declared.Point.{Point}
use Rattle.design_problem.specs.Forms.{Form}
use Rattle.form_search.specs.declared.source.FormSource.{Ghosts}
use Rattle.form_search.specs.Sources.{Grows, SameFor, SameSource}
use Rattle.form_search.specs.Calls.{AreInStep, Leaves}

module _ {X : Type 0} where
  -- the same before and after, three times
  pub same_for_then : (First Second Third : X → Type 0) → SameFor First Second → SameFor Second Third → SameFor First Third
  same_for_then First Second Third first second = λ x. (λ is. (second x).0 ((first x).0 is), λ is. (first x).1 ((second x).1 is))

-- true forms, as the source after tells them
pub all_same : (First Second : Form → Type 0) (forms : List Form) → SameFor First Second → All First forms → All Second forms
all_same First Second forms same all = λ k d k_in. (same _).0 (all k d k_in)

-- a pool that stays as it is
pub grows_none : (IsTrue : Form → Type 0) (forms : List Form) → Grows IsTrue forms forms
grows_none IsTrue forms = record { more = []; same = sym (append-nil forms); more_true = All-nil IsTrue }

-- and then by the source that the first call left
pub grows_then : (First Second : Form → Type 0) (old mid new : List Form) → SameFor First Second → Grows First old mid →
    Grows Second mid new → Grows First old new
grows_then First Second old mid new same first second = record {
  more = first.more ++ second.more;
  same = second.same ∙ (ap (λ (fs : List Form). fs ++ second.more) first.same ∙ append_assoc old first.more second.more);
  more_true = All-append First first.more second.more first.more_true (λ k d k_in. (same _).1 (second.more_true k d k_in));
}

-- the forms of the pool stay true ones
pub trues_kept : (First Second : Form → Type 0) (old new : List Form) → SameFor First Second → All First old → Grows First old new → All Second new
trues_kept First Second old new same all grows =
    all_same First Second new same (subst (λ (fs : List Form). All First fs) (sym grows.same) (All-append First old grows.more all grows.more_true))

module _ {Source : Type 0} (count : Source → ℕ) (accepted : Source → Point → Type 0) (true_form : Source → Form →
    Type 0) (possible_forms : Source → List Form) where
  pub same_alike : (source : Source) → SameSource count accepted true_form possible_forms source source
  same_alike source = record {
    same_count = refl;
    same_points = λ x. (λ is. is, λ is. is);
    same_forms = λ x. (λ is. is, λ is. is);
    same_possible_forms = refl;
  }

  pub same_then : (old mid new : Source) → SameSource count accepted true_form possible_forms old mid →
      SameSource count accepted true_form possible_forms mid new → SameSource count accepted true_form possible_forms old new
  same_then old mid new first second = record {
    same_count = second.same_count ∙ first.same_count;
    same_points = same_for_then (accepted old) (accepted mid) (accepted new) first.same_points second.same_points;
    same_forms = same_for_then (true_form old) (true_form mid) (true_form new) first.same_forms second.same_forms;
    same_possible_forms = second.same_possible_forms ∙ first.same_possible_forms;
  }

module _ {Source : Type 0} (members : Ghosts Source) where
  -- work that hasn't begun
  pub leaves_none : (source : Source) (forms : List Form) → members.in_step source forms → Leaves members (λ P. P) source source forms forms
  leaves_none source forms lists = record {
    grows = grows_none (members.true_form source) forms;
    same = same_alike members.count members.accepted members.true_form members.possible_forms source;
    lists = lists;
  }

  -- work that failed before a source was asked
  pub leaves_failed : {T E : Type 0} (source : Source) (old new : List Form) (result : Result T E) →
      IsErr result → new ≡ old → Leaves members (OnOk result) source source old new
  leaves_failed source old new (Ok x) failed same = absurd (false≢true failed)
  leaves_failed source old new (Err e) failed same = record {
    grows = subst (λ (fs : List Form). Grows (members.true_form source) old fs) (sym same) (grows_none (members.true_form source) old);
    same = same_alike members.count members.accepted members.true_form members.possible_forms source;
    lists = tt;
  }

  -- some work, and then some more
  pub leaves_then : {First Second Both : Type 0 → Type 0} (old mid new : Source) (old_forms mid_forms new_forms : List Form) →
      Leaves members First old mid old_forms mid_forms → Leaves members Second mid new mid_forms new_forms →
      Both (members.in_step new new_forms) → Leaves members Both old new old_forms new_forms
  leaves_then old mid new old_forms mid_forms new_forms first second lists = record {
    grows = grows_then (members.true_form old) (members.true_form mid) old_forms mid_forms new_forms first.same.same_forms first.grows second.grows;
    same = same_then members.count members.accepted members.true_form members.possible_forms old mid new first.same second.same;
    lists = lists;
  }

  -- source and pool go together after work that ended well
  pub in_step_then : (old new : Source) (old_forms new_forms : List Form) → AreInStep members old old_forms →
      Leaves members (λ P. P) old new old_forms new_forms → AreInStep members new new_forms
  in_step_then old new old_forms new_forms begun left = record {
    lists = left.lists;
    true_forms =
        trues_kept (members.true_form old) (members.true_form new) old_forms new_forms left.same.same_forms begun.true_forms
        left.grows;
  }
