-- Searches that decide caps, one after another, are searches.
use Rattle.std.specs.Prelude.{◌≡◌, ℕ, List, [], ◌∷◌, ◌++◌, Result, Ok, Err, OnOk}
use Rattle.std.proofs.Common.{refl, subst}
use Rattle.design_problem.specs.declared.tree.Entry.{Entry}
use Rattle.design_problem.specs.Problems.{DesignProblem}
use Rattle.design_problem.specs.Boxes.{IsPointOf, capped}
use Rattle.design_problem.specs.Earnest.{IsLeastPoint}
use Rattle.design_problem.specs.Rows.{LeadsEach, box_of}
use Rattle.cut_advisors.specs.declared.candidate.Candidate.{Candidate}
use Rattle.form_search.specs.declared.found.Found.{Found}
use Rattle.form_search.specs.AdvisorsAsked.{AreAdvisorsLeft, AreAllTold, IsPick, IsSearched}
use Rattle.form_search.proofs.AdvisorLaws.{calls_there, left_alike, left_searched, left_then}
use Rattle.cost_branching.specs.Pools.{Pooled}
use Rattle.cost_branching.specs.AdvisorsAsked.{AreAskedInTurn, IsAskedAt}

-- one search more, behind the others
pub turns_more : {A D : Type 0} (IsAskedFor : D → List A → List A → Type 0) (ds : List D) (d : D) (old mid new : List A) →
    AreAskedInTurn IsAskedFor ds old mid → IsAskedFor d mid new → AreAskedInTurn IsAskedFor (ds ++ d ∷ []) old new
turns_more IsAskedFor [] d old mid new same asked = (new, subst (λ (xs : List _). IsAskedFor d xs new) same asked, refl)
turns_more IsAskedFor (e ∷ ds) d old mid new are asked = (are.0, are.1, turns_more IsAskedFor ds d are.0 mid new are.2 asked)

-- some searches behind others
pub turns_then : {A D : Type 0} (IsAskedFor : D → List A → List A → Type 0) (ds es : List D) (old mid new : List A) →
    AreAskedInTurn IsAskedFor ds old mid → AreAskedInTurn IsAskedFor es mid new → AreAskedInTurn IsAskedFor (ds ++ es) old new
turns_then IsAskedFor [] es old mid new same are = subst (λ (xs : List _). AreAskedInTurn IsAskedFor es xs new) same are
turns_then IsAskedFor (d ∷ ds) es old mid new first are = (first.0, first.1, turns_then IsAskedFor ds es first.0 mid new first.2 are)

-- the advisors that they leave are those that some searches leave
pub turns_left : {A D : Type 0} (IsAskedFor : D → List A → List A → Type 0) (Search : List A → List A → Type 0) (ds : List D) (old new : List A) →
    ((d : D) (xs ys : List A) → IsAskedFor d xs ys → Search xs ys) → AreAskedInTurn IsAskedFor ds old new → AreAdvisorsLeft Search old new
turns_left IsAskedFor Search [] old new each same = left_alike Search old new same
turns_left IsAskedFor Search (d ∷ ds) old new each are =
    left_then Search old are.0 new (left_searched Search old are.0 (each d old are.0 are.1))
    (turns_left IsAskedFor Search ds are.0 new each are.2)

-- one that decides a cap is a search
pub cap_searched : {A : Type 0} (IsItself : A → A → Type 0) (state : A → List ℕ) (would : A → List ℕ → List Candidate → ℕ)
    (left : A → List ℕ → List Candidate → List ℕ) (after : A → List ℕ → Entry → List ℕ) (p : DesignProblem) (top nodes cap : ℕ) (pool : Pooled) (found : Found)
    (old new : List A) → IsAskedAt IsItself state would left after p top nodes cap pool found old new → IsSearched IsItself state would left after old new
cap_searched IsItself state would left after p top nodes cap pool found old new asked =
    let costs = capped (box_of p) cap in (
      costs,
      asked.tree,
      calls_there (IsLeastPoint (LeadsEach p)) IsPointOf (IsPick IsItself state would left) (AreAllTold IsItself state after) costs asked.tree old new
          (λ b point least. least.inside) asked.calls,
    )

-- what holds anyhow holds where a call ended well
pub where_ok : {T E P : Type 0} (result : Result T E) → P → OnOk result P
where_ok (Ok made) holds = holds
where_ok (Err e) holds = tt
