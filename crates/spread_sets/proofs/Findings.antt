-- What a search over sets comes to, and what is answered.
use Rattle.std.proofs.Common.{◌≡◌, ℕ, ◌≤◌, refl, sym, ◌∙◌, ap, subst, get_or, List, length, Result, Ok, Err}
use Rattle.std.specs.Prelude.{All, AllPairs, IfOk, OnOk}
use Rattle.cost_base.specs.declared.OutOfMemory.{OutOfMemory}
use Rattle.std.proofs.lemmas.List.Elements.{All-map}
use Rattle.design_problem.specs.declared.boxes.CostBox.{CostBox}
use Rattle.design_problem.specs.Forms.{Form}
use Rattle.design_problem.specs.Problems.{DesignProblem, IsProblem, IsProblemOnGraph}
use Rattle.design_problem.specs.Rows.{box_of}
use Rattle.design_problem.specs.Boxes.{capped}
use Rattle.design_problem.specs.Answers.{greatest_bound, whole_box}
use Rattle.form_search.specs.Finds.{IsSearchResult}
use Rattle.form_search.specs.declared.found.Found.{Found}
use Rattle.printed_rows.proofs.CapBoxes.{low_below_greatest_bound, no_low_above}
use Rattle.set_reader.specs.SpreadSets.{AreSetsOf}
use Rattle.spread_sets.specs.declared.finding.Sought.{Sought}
use Rattle.spread_sets.specs.declared.member_sets.MemberSet.{MemberSet}
use Rattle.spread_sets.specs.Spreads.{IsSetRow, SetRowsDiffer, SharesEach, all_sets, form_of_set_row, forms_of_set_rows}
use Rattle.spread_sets.specs.MemberSets.{AreDistinctSets, AreMemberSets, HasTree, IsMemberSet, sets_in}
use Rattle.spread_sets.specs.Sources.{IsFoundInStep, IsPoolOfSets, IsSpreadSought, IsTrueOfSets, KnownSets}
use Rattle.spread_sets.proofs.MadeSets.{sets_below}
use Rattle.spread_sets.proofs.SetLaws.{all_sets_are}

-- the pool's forms are true
pub pool_true : (s : KnownSets) (pool : List Form) → IsProblemOnGraph s.problem → AreMemberSets s.problem s.sets →
    IsPoolOfSets s pool → All (IsTrueOfSets s.problem s.sets) pool
pool_true s pool kept are in_step =
    subst (All (IsTrueOfSets s.problem s.sets)) (sym in_step.forms)
    (All-map (IsTrueOfSets s.problem s.sets) (form_of_set_row s.problem) s.rows
    (λ k d k_in. record { kept = kept; are = are; of_row = record { row = get_or s.rows k d; is_row = in_step.true_rows k d k_in; same = refl } }))

-- under other names
pub pool_true_as : (s : KnownSets) (p : DesignProblem) (sets : List (List ℕ)) (pool : List Form) → s.problem ≡ p →
    s.sets ≡ sets → IsProblemOnGraph p → AreMemberSets p sets → IsPoolOfSets s pool → All (IsTrueOfSets s.problem s.sets) pool
pool_true_as s p sets pool same_problem same_sets kept are in_step =
    pool_true s pool (subst IsProblemOnGraph (sym same_problem) kept)
    (subst (λ (q : DesignProblem). AreMemberSets q s.sets) (sym same_problem) (subst (AreMemberSets p) (sym same_sets) are)) in_step

pub trees_sets : (p : DesignProblem) (sets : List MemberSet) → All (HasTree p) sets → AreMemberSets p (sets_in sets)
trees_sets p sets trees = All-map (IsMemberSet p) (λ (s : MemberSet). s.members) sets (λ k d k_in. (trees k d k_in).is_set)

-- what is accepted under other names
pub found_as : (p q : DesignProblem) (sets others : List (List ℕ)) (top nodes : ℕ) (pool : List Form) (box : CostBox)
    (found : Found) → q ≡ p → others ≡ sets → IsSearchResult (SharesEach q others) top nodes pool box found →
    IsSearchResult (SharesEach p sets) top nodes pool box found
found_as p q sets others top nodes pool box found same_problem same_sets is =
    subst (λ (r : DesignProblem). IsSearchResult (SharesEach r sets) top nodes pool box found) same_problem
    (subst (λ (ss : List (List ℕ)). IsSearchResult (SharesEach q ss) top nodes pool box found) same_sets is)

-- what a search found is by the forms of the pool
pub found_in_step : (p : DesignProblem) (sets : List (List ℕ)) (top nodes : ℕ) (box : CostBox) (source : KnownSets) (pool : List Form)
    (result : Result Found OutOfMemory) → OnOk result (IsPoolOfSets source pool) →
    IfOk result (IsSearchResult (SharesEach p sets) top nodes pool box) → IfOk result (IsFoundInStep p sets top nodes box source)
found_in_step p sets top nodes box source pool (Ok found) lists is = record { forms = pool; lists = lists; result = is }
found_in_step p sets top nodes box source pool (Err e) lists is = tt

pub sought_is : (p : DesignProblem) (sets : List (List ℕ)) (top nodes : ℕ) (box : CostBox) (source : KnownSets)
    (pool : List Form) (sought : Sought) → source.problem ≡ p → source.sets ≡ sets → IsPoolOfSets source pool →
    IsSearchResult (SharesEach p sets) top nodes pool box sought.found → sought.rows.items ≡ source.rows →
    IsSpreadSought p sets top nodes box sought
sought_is p sets top nodes box source pool sought same_problem same_sets in_step found same_rows = record {
  true_rows =
      subst (λ (q : DesignProblem). All (IsSetRow q sets) sought.rows.items) same_problem
      (subst (λ (ss : List (List ℕ)). All (IsSetRow source.problem ss) sought.rows.items) same_sets
      (subst (All (IsSetRow source.problem source.sets)) (sym same_rows) in_step.true_rows));
  once = λ distinct. subst (AllPairs SetRowsDiffer) (sym same_rows) (in_step.once (subst AreDistinctSets (sym same_sets) distinct));
  found =
      subst (λ (fs : List Form). IsSearchResult (SharesEach p sets) top nodes fs box sought.found)
      (in_step.forms ∙ ap (forms_of_set_rows source.problem) (sym same_rows)
      ∙ ap (λ (q : DesignProblem). forms_of_set_rows q sought.rows.items) same_problem) found;
}

-- the sets that are made are the problem's
pub made_sets : (p : DesignProblem) (lines : List (List ℕ)) (sets : List (List ℕ)) (count : ℕ) →
    count ≡ length p.requests → sets ≡ sets_below lines count → sets ≡ all_sets p lines
made_sets p lines sets count all is = is ∙ ap (sets_below lines) all

pub made_are : (p : DesignProblem) (lines sets : List (List ℕ)) → AreSetsOf p lines → sets ≡ all_sets p lines → AreMemberSets p sets
made_are p lines sets are same = subst (AreMemberSets p) (sym same) (all_sets_are p lines are)

-- no lower bound is above the greatest bound
pub lows_within : (p : DesignProblem) (cap : ℕ) → IsProblem p → cap ≡ greatest_bound p → All (λ low. low ≤ cap) p.low
lows_within p cap kept same = subst (λ (k : ℕ). All (λ low. low ≤ k) p.low) (sym same) (no_low_above p.low (greatest_bound p) (low_below_greatest_bound p kept))

-- what was sought in the box that was made
pub sought_whole : (p : DesignProblem) (sets others : List (List ℕ)) (top nodes cap : ℕ) (box : CostBox)
    (sought : Sought) → others ≡ sets → cap ≡ greatest_bound p → box ≡ capped (box_of p) cap →
    IsSpreadSought p others top nodes box sought → IsSpreadSought p sets top nodes (whole_box p) sought
sought_whole p sets others top nodes cap box sought same_sets same_cap same_box is =
    subst (λ (ss : List (List ℕ)). IsSpreadSought p ss top nodes (whole_box p) sought) same_sets
    (subst (λ (b : CostBox). IsSpreadSought p others top nodes b sought) (same_box ∙ ap (capped (box_of p)) same_cap) is)
