-- Sets that are asked one after another.
use Rattle.std.proofs.Common.{◌≡◌, ℕ, ◌+◌, ◌<◌, ◌≤◌, refl, sym, ◌∙◌, ap, subst, inl, inr, List, [], ◌∷◌, ◌++◌, length, arith, append_assoc}
use Rattle.std.specs.Prelude.{◌↔◌, All}
use Rattle.std.proofs.lemmas.Bool.{cases_lt}
use Rattle.std.proofs.lemmas.List.{map-append}
use Rattle.std.proofs.lemmas.List.Elements.{All-contains, All-from_get_or, All-push, All-weaker}
use Rattle.std.proofs.lemmas.List.Quantifiers.{all_pairs_push}
use Rattle.area_graph.specs.declared.Point.{Point}
use Rattle.design_problem.specs.Forms.{Form, AreMet}
use Rattle.design_problem.specs.Problems.{DesignProblem, IsProblemOnGraph}
use Rattle.form_search.specs.Sources.{IsSourceAnswer, SameSource}
use Rattle.form_search.specs.declared.source.Asked.{Asked}
use Rattle.form_search.specs.declared.source.Asked.TheVariants.{Nothing, Added}
use Rattle.form_search.proofs.SourceLaws.{grows_none}
use Rattle.cost_branching.proofs.NewForms.{between_negative, grows_more, new_form}
use Rattle.spread_sets.specs.declared.spread.SetRow.{SetRow}
use Rattle.spread_sets.specs.declared.spread.SetRow.TheVariants.{Outsider}
use Rattle.spread_sets.specs.Spreads.{IsSetRow, SetRowsDiffer, Shares, SharesEach, edges_of, name_of_set, form_of_set_row}
use Rattle.spread_sets.specs.MemberSets.{AreDistinctSets, AreMemberSets}
use Rattle.spread_sets.specs.Sources.{IsPoolOfSets, IsOutsiderTooCheap, IsTrueOfSets, KnownSets, possible_forms_of, set_at, tie_rows}
use Rattle.spread_sets.specs.Asking.{AnswersSetsBelow, AreAllSetsAsked, AreSetsAsked, IsPassed, NoSetRow, OneSetRow}
use Rattle.spread_sets.proofs.DistinctRows.{passed_differs, passed_more}
use Rattle.spread_sets.proofs.Ties.{rows_met}
use Rattle.spread_sets.proofs.SetLaws.{listed_at}

-- no set was asked yet
pub none_asked : (point : Point) (s : KnownSets) (forms : List Form) → IsPoolOfSets s forms → AreMet forms point → AreSetsAsked point 0 s forms s forms Nothing
none_asked point s forms in_step met = record {
  problem = refl;
  sets = refl;
  in_step = in_step;
  grows = grows_none (IsTrueOfSets s.problem s.sets) forms;
  passed = λ k d k_in. inr (rows_met s.problem s.rows forms point in_step.forms met k d k_in);
  answer = (refl, λ k k_in. absurd (omega arith));
}

-- the first sets share, and one more
pub shares_more : (p : DesignProblem) (sets : List (List ℕ)) (point : Point) (count : ℕ) →
    ((k : ℕ) → k < count → Shares p point (set_at sets k)) → Shares p point (set_at sets count) → (k : ℕ) →
    k < count + 1 → Shares p point (set_at sets k)
shares_more p sets point count before shares k k_in = elim (cases_lt k count) [
  | inl earlier ↦ before k earlier
  | inr last ↦ subst (λ (i : ℕ). Shares p point (set_at sets i)) (let e : count ≡ k = omega arith in e) shares
]

-- one set more, which shares
answers_more : (old : KnownSets) (point : Point) (count : ℕ) (old_forms forms : List Form) (asked : Asked) →
    AnswersSetsBelow old point count old_forms forms asked → Shares old.problem point (set_at old.sets count) →
    AnswersSetsBelow old point (count + 1) old_forms forms asked
answers_more old point count old_forms forms Nothing answer shares = (answer.0, shares_more old.problem old.sets point count answer.1 shares)
answers_more old point count old_forms forms Added answer shares = answer

-- the problem and the sets under other names
shares_as : (p q : DesignProblem) (sets others : List (List ℕ)) (point : Point) (place : ℕ) → q ≡ p → others ≡ sets →
    Shares q point (set_at others place) → Shares p point (set_at sets place)
shares_as p q sets others point place same_problem same_sets shares =
    subst (λ (r : DesignProblem). Shares r point (set_at sets place)) same_problem
    (subst (λ (ss : List (List ℕ)). Shares q point (set_at ss place)) same_sets shares)

pub more_share : (point : Point) (count : ℕ) (old : KnownSets) (old_forms : List Form) (now : KnownSets)
    (forms : List Form) (new : KnownSets) (new_forms : List Form) (asked : Asked) →
    AreSetsAsked point count old old_forms now forms asked → NoSetRow point count now forms new new_forms →
    AreSetsAsked point (count + 1) old old_forms new new_forms asked
more_share point count old old_forms now forms new new_forms asked are one =
    subst (λ (s : KnownSets). AreSetsAsked point (count + 1) old old_forms s new_forms asked) (sym one.rows)
    (subst (λ (fs : List Form). AreSetsAsked point (count + 1) old old_forms now fs asked) (sym one.forms)
    (record {
      problem = are.problem;
      sets = are.sets;
      in_step = are.in_step;
      grows = are.grows;
      passed = All-weaker (IsPassed old point count) (IsPassed old point (count + 1)) (passed_more old point count) now.rows are.passed;
      answer = answers_more old point count old_forms forms asked are.answer
          (shares_as old.problem now.problem old.sets now.sets point count are.problem are.sets one.shares);
    }))

-- one set more, of which a row came

-- rows with one more
pub in_step_more : (now : KnownSets) (forms : List Form) (row : SetRow) → IsPoolOfSets now forms →
    IsSetRow now.problem now.sets row → (AreDistinctSets now.sets → All (λ other. SetRowsDiffer other row) now.rows) →
    IsPoolOfSets (record now { rows = now.rows ++ row ∷ [] }) (forms ++ form_of_set_row now.problem row ∷ [])
in_step_more now forms row in_step is differ = record {
  true_rows = All-push (IsSetRow now.problem now.sets) now.rows row in_step.true_rows is;
  more = in_step.more ++ row ∷ [];
  begun = ap (λ (rs : List SetRow). rs ++ row ∷ []) in_step.begun ∙ append_assoc (tie_rows now.sets) in_step.more (row ∷ []);
  once = λ distinct. all_pairs_push SetRowsDiffer now.rows row (in_step.once distinct) (differ distinct);
  forms = ap (λ (fs : List Form). fs ++ form_of_set_row now.problem row ∷ []) in_step.forms
      ∙ sym (map-append (form_of_set_row now.problem) now.rows (row ∷ []));
}

pub too_cheap_not : (p : DesignProblem) (point : Point) (set es : List ℕ) → IsOutsiderTooCheap p point set es → Shares p point set → ⊥
too_cheap_not p point set es cheap shares = (let more = shares.dearer es cheap.outsider in let less = cheap.cheap in absurd (omega arith))

row_added : (point : Point) (count : ℕ) (p : DesignProblem) (sets : List (List ℕ)) (old_rows : List SetRow)
    (old_forms : List Form) (rows : List SetRow) (forms : List Form) (asked : Asked) (outsider : List ℕ) →
    AreSetsAsked point count (record { problem = p; sets = sets; rows = old_rows }) old_forms
    (record { problem = p; sets = sets; rows = rows }) forms asked →
    AreMet old_forms point → length point.values ≡ length p.low → IsProblemOnGraph p → AreMemberSets p sets →
    count < length sets → IsOutsiderTooCheap p point (set_at sets count) outsider →
    AreSetsAsked point (count + 1) (record { problem = p; sets = sets; rows = old_rows }) old_forms
    (record { problem = p; sets = sets; rows = rows ++ Outsider (name_of_set (set_at sets count)) outsider ∷ [] })
    (forms ++ form_of_set_row p (Outsider (name_of_set (set_at sets count)) outsider) ∷ []) Added
row_added point count p sets old_rows old_forms rows forms asked outsider are met length_is kept members inside cheap =
    let old : KnownSets = record { problem = p; sets = sets; rows = old_rows } in
    let set = set_at sets count in
    let row : SetRow = Outsider (name_of_set set) outsider in
    let has = listed_at sets count [] inside in
    let negative = between_negative p point (edges_of p (name_of_set set)) outsider kept.problem length_is cheap.cheap in
    let is_row : IsSetRow p sets row = (set, record { listed = has; first = refl }, cheap.outsider) in
    record {
      problem = refl;
      sets = refl;
      in_step = in_step_more (record { problem = p; sets = sets; rows = rows }) forms row are.in_step is_row
          (λ distinct. All-weaker (IsPassed old point count) (λ other. SetRowsDiffer other row)
          (λ other passed. passed_differs old point count other outsider distinct inside negative passed) rows are.passed);
      grows = grows_more (IsTrueOfSets p sets) old_forms forms (form_of_set_row p row) are.grows
          (record { kept = kept; are = members; of_row = record { row = row; is_row = is_row; same = refl } });
      passed = All-push (IsPassed old point (count + 1)) rows row
          (All-weaker (IsPassed old point count) (IsPassed old point (count + 1)) (passed_more old point count) rows are.passed)
          (inl (count, omega arith, refl));
      answer = (
        λ each. too_cheap_not p point set outsider cheap (All-contains (Shares p point) sets set each has),
        new_form point old_forms forms (form_of_set_row p row) met negative,
      );
    }

pub one_added : (point : Point) (count : ℕ) (old : KnownSets) (old_forms : List Form) (now : KnownSets)
    (forms : List Form) (new : KnownSets) (new_forms : List Form) (asked : Asked) →
    AreSetsAsked point count old old_forms now forms asked → AreMet old_forms point →
    length point.values ≡ length old.problem.low → count < length old.sets →
    OneSetRow point count now forms new new_forms →
    AreSetsAsked point (count + 1) old old_forms new new_forms Added
one_added point count old old_forms now forms new new_forms asked are met length_is inside one =
    subst (λ (s : KnownSets). AreSetsAsked point (count + 1) old old_forms s new_forms Added) (sym one.rows)
    (subst (λ (fs : List Form). AreSetsAsked point (count + 1) old old_forms
    (record now { rows = now.rows ++ Outsider (name_of_set (set_at now.sets count)) one.outsider ∷ [] }) fs Added)
    (sym one.forms)
    (by_names now.problem now.sets are.problem are.sets are one.kept one.are one.cheap))
  where
    by_names : (q : DesignProblem) (others : List (List ℕ)) → q ≡ old.problem → others ≡ old.sets →
        AreSetsAsked point count old old_forms (record { problem = q; sets = others; rows = now.rows }) forms asked →
        IsProblemOnGraph q → AreMemberSets q others → IsOutsiderTooCheap q point (set_at others count) one.outsider →
        AreSetsAsked point (count + 1) old old_forms
        (record {
          problem = q;
          sets = others;
          rows = now.rows ++ Outsider (name_of_set (set_at others count)) one.outsider ∷ [];
        })
        (forms ++ form_of_set_row q (Outsider (name_of_set (set_at others count)) one.outsider) ∷ []) Added
    by_names q others same_problem same_sets =
        subst (λ (r : DesignProblem). AreSetsAsked point count old old_forms
        (record { problem = r; sets = others; rows = now.rows }) forms asked → IsProblemOnGraph r → AreMemberSets r others →
        IsOutsiderTooCheap r point (set_at others count) one.outsider →
        AreSetsAsked point (count + 1) old old_forms
        (record {
          problem = r;
          sets = others;
          rows = now.rows ++ Outsider (name_of_set (set_at others count)) one.outsider ∷ [];
        })
        (forms ++ form_of_set_row r (Outsider (name_of_set (set_at others count)) one.outsider) ∷ []) Added)
        (sym same_problem)
        (subst (λ (ss : List (List ℕ)).
        AreSetsAsked point count old old_forms (record { problem = old.problem; sets = ss; rows = now.rows }) forms
        asked → IsProblemOnGraph old.problem → AreMemberSets old.problem ss →
        IsOutsiderTooCheap old.problem point (set_at ss count) one.outsider →
        AreSetsAsked point (count + 1) old old_forms
        (record {
          problem = old.problem;
          sets = ss;
          rows = now.rows ++ Outsider (name_of_set (set_at ss count)) one.outsider ∷ [];
        })
        (forms ++ form_of_set_row old.problem (Outsider (name_of_set (set_at ss count)) one.outsider) ∷ []) Added)
        (sym same_sets)
        (λ here kept members cheap. row_added point count old.problem old.sets old.rows old_forms now.rows forms asked
        one.outsider here met length_is kept members inside cheap))

-- all sets were asked
pub all_asked : (point : Point) (count : ℕ) (old : KnownSets) (old_forms : List Form) (new : KnownSets)
    (new_forms : List Form) (asked : Asked) → length old.sets ≤ count →
    AreSetsAsked point count old old_forms new new_forms asked → AreAllSetsAsked point old old_forms new new_forms asked
all_asked point count old old_forms new new_forms asked all are = record { in_step = are.in_step; answer = by_answer asked are.answer }
  where
    by_answer : (asked : Asked) → AnswersSetsBelow old point count old_forms new_forms asked →
        IsSourceAnswer (SharesEach old.problem old.sets) point old_forms new_forms asked
    by_answer Nothing answer = (All-from_get_or (Shares old.problem point) old.sets [] (λ k k_in. answer.1 k (omega arith)), answer.0)
    by_answer Added answer = answer

-- What no call changes.

abbrev IsSameFor : (DesignProblem → List (List ℕ) → Type 0) → KnownSets → KnownSets → Type 0
IsSameFor P old new = P old.problem old.sets ↔ P new.problem new.sets

same_for : (P : DesignProblem → List (List ℕ) → Type 0) (old new : KnownSets) → new.problem ≡ old.problem → new.sets ≡ old.sets → IsSameFor P old new
same_for P old new same_problem same_sets = (
  λ holds. subst (λ (p : DesignProblem). P p new.sets) (sym same_problem) (subst (P old.problem) (sym same_sets) holds),
  λ holds. subst (P old.problem) same_sets (subst (λ (p : DesignProblem). P p new.sets) same_problem holds),
)

pub same_source : (old new : KnownSets) → new.problem ≡ old.problem → new.sets ≡ old.sets →
    SameSource (λ s. length s.problem.low) (λ s. SharesEach s.problem s.sets) (λ s. IsTrueOfSets s.problem s.sets)
    (λ s. possible_forms_of s.problem) old new
same_source old new same_problem same_sets = record {
  same_count = ap (λ (p : DesignProblem). length p.low) same_problem;
  same_points = λ point. same_for (λ p sets. SharesEach p sets point) old new same_problem same_sets;
  same_forms = λ form. same_for (λ p sets. IsTrueOfSets p sets form) old new same_problem same_sets;
  same_possible_forms = ap possible_forms_of same_problem;
}
