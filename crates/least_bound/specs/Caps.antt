-- What is known of the least greatest cost while caps are decided. No public clause cites it.
use Rattle.std.specs.Prelude.{◌≡◌, ℕ, ◌+◌, ◌<◌, ◌≤◌, List, Contains, Option, None, Some}
use Rattle.design_problem.specs.declared.tree.Entry.TheVariants.{Undone}
use Rattle.design_problem.specs.declared.answer.CapTree.{CapTree}
use Rattle.design_problem.specs.Problems.{DesignProblem}
use Rattle.design_problem.specs.Rows.{IsFit, greatest_cost}
use Rattle.design_problem.specs.Trees.{IsClosed, entry_count}
use Rattle.design_problem.specs.Answers.{AnswerParts, greatest_bound}
use Rattle.cut_advisors.specs.declared.advisor.Advisor.{Ghosts}
use Rattle.form_search.specs.AdvisorsAsked.{by_rules}
use Rattle.cost_branching.specs.Pools.{Pooled}
use Rattle.cost_branching.specs.Decisions.{IsTreeAt}
use Rattle.least_bound.specs.declared.so_far.Best.{Best}
use Rattle.least_bound.specs.declared.so_far.Best.TheVariants.{NoCosts, Costs, Between}
use Rattle.least_bound.specs.declared.so_far.SoFar.{SoFar}
use Rattle.least_bound.specs.AdvisorsAsked.{AreAskedAtCaps, AreCapsInOrder, CapDecision, CapsSoFar}

-- a closed tree at its cap, of at most N entries
pub record IsRefuted (p : DesignProblem) (top nodes : ℕ) (pool : Pooled) (t : CapTree) : Type 0 where
  pub tree : IsTreeAt p top t.cap pool t.tree
  pub closed : IsClosed t.tree
  pub few : entry_count t.tree ≤ nodes

-- a tree at its cap that used up the budget: it has an Undone and exactly N entries
pub record IsUndecidedAt (p : DesignProblem) (top nodes : ℕ) (pool : Pooled) (t : CapTree) : Type 0 where
  pub tree : IsTreeAt p top t.cap pool t.tree
  pub undone : Contains t.tree Undone
  pub used_up : entry_count t.tree ≡ nodes

-- the kept tree is closed at the cap below the least; without one the least is the greatest lower bound
abbrev pub IsKeptAt : DesignProblem → ℕ → ℕ → Pooled → ℕ → Option CapTree → Type 0
IsKeptAt p top nodes pool least None = least ≡ greatest_cost p.low
IsKeptAt p top nodes pool least (Some t) = (t.cap + 1 ≡ least) × (greatest_cost p.low ≤ t.cap) × IsRefuted p top nodes pool t

-- a kept tree is closed at a cap below this one, and not below a lower bound
abbrev pub IsTreeKeptBelow : DesignProblem → ℕ → ℕ → Pooled → ℕ → Option CapTree → Type 0
IsTreeKeptBelow p top nodes pool cap None = Unit {0}
IsTreeKeptBelow p top nodes pool cap (Some t) = (t.cap < cap) × (greatest_cost p.low ≤ t.cap) × IsRefuted p top nodes pool t

-- without costs the cap is the greatest bound; with costs, which are fit, it is below their greatest
abbrev pub CostsFound : DesignProblem → ℕ → Option (List ℕ) → Type 0
CostsFound p cap None = cap ≡ greatest_bound p
CostsFound p cap (Some w) = IsFit p w × (cap < greatest_cost w)

-- what the best so far says of the cap `most`
abbrev pub BestHolds : DesignProblem → ℕ → ℕ → Pooled → ℕ → Best → Type 0
BestHolds p top nodes pool most (NoCosts t) = (t.cap ≡ greatest_bound p) × (most ≤ t.cap) × IsUndecidedAt p top nodes pool t
BestHolds p top nodes pool most (Costs w) = IsFit p w × (greatest_cost w ≡ most)
BestHolds p top nodes pool most (Between w t) = IsFit p w × (most < greatest_cost w) × (t.cap ≡ most) × IsUndecidedAt p top nodes pool t

-- fit costs have a greatest cost from `least` on, and `most` is the least cap at which costs or an undecided tree stand
pub record IsBoundSoFar (p : DesignProblem) (top nodes : ℕ) (pool : Pooled) (so_far : SoFar) : Type 0 where
  pub lowest_cap : so_far.lowest_cap ≡ greatest_cost p.low
  pub from_lowest_cap : so_far.lowest_cap ≤ so_far.least
  pub ordered : so_far.least ≤ so_far.most
  pub none_lower : (w : List ℕ) → IsFit p w → so_far.least ≤ greatest_cost w
  pub kept : IsKeptAt p top nodes pool so_far.least so_far.kept
  pub best : BestHolds p top nodes pool so_far.most so_far.best

-- the costs of the best so far, if there are any
abbrev pub known_costs : Best → Option (List ℕ)
known_costs (NoCosts t) = None
known_costs (Costs w) = Some w
known_costs (Between w t) = Some w

-- the undecided tree of the best so far, if there is one
abbrev pub undecided_of : Best → Option CapTree
undecided_of (NoCosts t) = Some t
undecided_of (Costs w) = None
undecided_of (Between w t) = Some t

-- what the caps so far have come to, by what is known
abbrev pub caps_of : SoFar → CapsSoFar
caps_of so_far = record {
  least = so_far.least;
  most = so_far.most;
  costs = known_costs so_far.best;
  refuted = so_far.kept;
  undecided = undecided_of so_far.best;
}

-- behind what the caps so far have come to, a search called the advisors, by their rules, for each further one, until
-- the answer
abbrev pub AreAskedOn : {A V : Type 0} {X : V → Type 0} → ((rules : V) → Ghosts (X rules)) → (A → V) → (A → List ℕ) →
    DesignProblem → ℕ → ℕ → CapsSoFar → List A → List A → AnswerParts → Type 0
AreAskedOn members rules state p top nodes s old new a = (ds : List CapDecision) × AreCapsInOrder p s ds a
    × by_rules AreAskedAtCaps members rules state p top nodes ds old new

-- no cap is left to decide; without costs the lowest cap itself isn't one
abbrev pub AreCapsDone : ℕ → ℕ → ℕ → Best → Type 0
AreCapsDone lowest_cap least most (NoCosts t) = least < most → most ≤ lowest_cap + 1
AreCapsDone lowest_cap least most (Costs w) = most ≤ least
AreCapsDone lowest_cap least most (Between w t) = most ≤ least
