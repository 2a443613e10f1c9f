-- How the searches that decide caps call the advisors.
use Rattle.std.specs.Prelude.{◌≡◌, ℕ, List, [], ◌∷◌}
use Rattle.design_problem.specs.declared.tree.Entry.{Entry}
use Rattle.design_problem.specs.Problems.{DesignProblem}
use Rattle.design_problem.specs.Boxes.{capped}
use Rattle.design_problem.specs.Earnest.{IsLeastPoint}
use Rattle.design_problem.specs.OpenPlaces.{Growing}
use Rattle.design_problem.specs.Rows.{LeadsEach, box_of}
use Rattle.cut_advisors.specs.declared.candidate.Candidate.{Candidate}
use Rattle.form_search.specs.declared.found.Found.{Found}
use Rattle.form_search.specs.AdvisorsAsked.{AreAllTold, AreCalledBySearch, IsPick, IsTreeOf}
use Rattle.cost_branching.specs.Pools.{Pooled}
use Rattle.cost_branching.specs.Decisions.{IsDecided}

-- A search that decided a cap of the problem, by the rows of a pool, called them: they were asked before each Split of
-- the tree of what it found, at the least point of the open box, and told each entry.
pub record IsAskedAt {A : Type 0} (IsItself : A → A → Type 0) (state : A → List ℕ) (would : A → List ℕ → List Candidate → ℕ)
    (left : A → List ℕ → List Candidate → List ℕ) (after : A → List ℕ → Entry → List ℕ)
    (p : DesignProblem) (top nodes cap : ℕ) (pool : Pooled) (found : Found) (old new : List A) : Type 0 where
  pub decided : IsDecided p top nodes cap pool found
  pub tree : Growing
  pub is_tree : IsTreeOf (IsLeastPoint (LeadsEach p)) tree found
  pub calls : AreCalledBySearch (IsLeastPoint (LeadsEach p)) (IsPick IsItself state would left) (AreAllTold IsItself state after)
      (capped (box_of p) cap) tree old new

-- one search after another called them: one for each decision, in order
abbrev pub AreAskedInTurn : {A D : Type 0} → (D → List A → List A → Type 0) → List D → List A → List A → Type 0
AreAskedInTurn IsAskedFor [] old new = new ≡ old
AreAskedInTurn IsAskedFor (d ∷ ds) old new = (mid : List _) × IsAskedFor d old mid × AreAskedInTurn IsAskedFor ds mid new
