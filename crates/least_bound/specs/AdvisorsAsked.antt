-- How the searches of a design call the advisors: which caps are decided, in order, and what the answer tells of what
-- was found.
use Rattle.std.specs.Prelude.{◌≡◌, ℕ, ◌+◌, ◌-◌, ◌*◌, ◌/◌, min, max, nat_lt, if◌then◌else◌, List, [], ◌∷◌, Option, None, Some}
use Rattle.design_problem.specs.declared.answer.CapTree.{CapTree}
use Rattle.design_problem.specs.declared.tree.Entry.{Entry}
use Rattle.design_problem.specs.Problems.{DesignProblem}
use Rattle.design_problem.specs.Rows.{greatest_cost}
use Rattle.design_problem.specs.Answers.{AnswerParts, greatest_bound}
use Rattle.cut_advisors.specs.declared.advisor.Advisor.{Ghosts}
use Rattle.cut_advisors.specs.declared.candidate.Candidate.{Candidate}
use Rattle.form_search.specs.declared.found.Found.{Found}
use Rattle.form_search.specs.declared.found.Found.TheVariants.{Costs, Refuted, Undecided}
use Rattle.printed_rows.specs.NewNumbers.{HasNumbers}
use Rattle.form_search.specs.AdvisorsAsked.{by_rules}
use Rattle.cost_branching.specs.Pools.{Pooled}
use Rattle.cost_branching.specs.AdvisorsAsked.{AreAskedInTurn, IsAskedAt}
use Rattle.least_bound.specs.Printing.{ArePrintedIfAny}

-- a cap, and what a search found at it, by the rows of a pool
pub record CapDecision : Type 0 where
  pub cap : ℕ
  pub pool : Pooled
  pub found : Found

-- What the caps so far have come to. Fit costs have at least the greatest cost `least`; `most` is the greatest cost of
-- the costs that were found last, or the least cap at which the budget was used up. `refuted` is the closed tree at the
-- greatest refuted cap, and `undecided` the tree that used up the budget: with costs the one at `most`, without any
-- the one at the greatest bound.
pub record CapsSoFar : Type 0 where
  pub least : ℕ
  pub most : ℕ
  pub costs : Option (List ℕ)
  pub refuted : Option CapTree
  pub undecided : Option CapTree

-- with costs, while `least` is less than `most`: the middle of the caps from `least - 1` to `most`, rounded down
abbrev pub halved_cap : ℕ → ℕ → Option ℕ
halved_cap least most = if nat_lt least most then Some ((least + most - 1) / 2) else None

-- Without costs the caps climb, from the greatest lower bound or the greatest refuted cap on, while the next one is
-- less than `most`: 1, 3, 7 and so on above the greatest lower bound, but not beyond the middle.
abbrev pub climbed_cap : ℕ → ℕ → ℕ → Option ℕ
climbed_cap lowest_cap passed most = if nat_lt (passed + 1) most then Some (min ((passed + most) / 2) (2 * passed - lowest_cap + 1)) else None

-- the cap between these that is decided next, if one is left, by whether costs were found
abbrev pub cap_between : ℕ → ℕ → ℕ → Option (List ℕ) → Option ℕ
cap_between lowest_cap least most None = climbed_cap lowest_cap (max (least - 1) lowest_cap) most
cap_between lowest_cap least most (Some w) = halved_cap least most

-- the cap that is decided next, if one is left
abbrev pub next_cap : DesignProblem → CapsSoFar → Option ℕ
next_cap p s = cap_between (greatest_cost p.low) s.least s.most s.costs

-- the undecided tree behind one more: without costs the one at the greatest bound stays
abbrev pub undecided_after : Option (List ℕ) → Option CapTree → CapTree → Option CapTree
undecided_after None old new = old
undecided_after (Some w) old new = Some new

-- what the caps have come to behind one more, by what was found at it
abbrev pub after_cap : CapsSoFar → ℕ → Found → CapsSoFar
after_cap s cap (Costs w) = record s { most = greatest_cost w; costs = Some w; undecided = None }
after_cap s cap (Refuted tree) = record s { least = cap + 1; refuted = Some (record { cap = cap; tree = tree }) }
after_cap s cap (Undecided tree) = record s { most = cap; undecided = undecided_after s.costs s.undecided (record { cap = cap; tree = tree }) }

-- what the greatest bound has come to, by what was found at it
abbrev pub after_greatest_bound : DesignProblem → Found → CapsSoFar
after_greatest_bound p (Costs w) = record { least = greatest_cost p.low; most = greatest_cost w; costs = Some w; refuted = None; undecided = None }
after_greatest_bound p (Refuted tree) = record {
  least = greatest_cost p.low;
  most = greatest_bound p;
  costs = None;
  refuted = Some (record { cap = greatest_bound p; tree = tree });
  undecided = None;
}
after_greatest_bound p (Undecided tree) = record {
  least = greatest_cost p.low;
  most = greatest_bound p;
  costs = None;
  refuted = None;
  undecided = Some (record { cap = greatest_bound p; tree = tree });
}

-- The answer tells what was found: these costs, if any, and these two trees at their caps, if any, with new numbers of
-- rows.
pub record TellsFound (p : DesignProblem) (found : Option (List ℕ)) (refuted unclosed : Option CapTree) (a : AnswerParts) : Type 0 where
  pub costs : ArePrintedIfAny p found a.costs
  pub number : ℕ → ℕ
  pub proof : HasNumbers number refuted a.proof
  pub undecided : HasNumbers number unclosed a.undecided

-- the answer tells what the caps have come to
abbrev pub TellsCaps : DesignProblem → CapsSoFar → AnswerParts → Type 0
TellsCaps p s a = TellsFound p s.costs s.refuted s.undecided a

-- the decided caps are those that come next, one after another, until none is left, and the answer tells what they came
-- to
abbrev pub AreCapsInOrder : DesignProblem → CapsSoFar → List CapDecision → AnswerParts → Type 0
AreCapsInOrder p s [] a = (next_cap p s ≡ None) × TellsCaps p s a
AreCapsInOrder p s (d ∷ ds) a = (next_cap p s ≡ Some d.cap) × AreCapsInOrder p (after_cap s d.cap d.found) ds a

-- the caps behind the greatest bound: none where it was refuted
abbrev pub AreCapsBehind : DesignProblem → Found → List CapDecision → AnswerParts → Type 0
AreCapsBehind p (Costs w) ds a = AreCapsInOrder p (after_greatest_bound p (Costs w)) ds a
AreCapsBehind p (Refuted tree) ds a = (ds ≡ []) × TellsCaps p (after_greatest_bound p (Refuted tree)) a
AreCapsBehind p (Undecided tree) ds a = AreCapsInOrder p (after_greatest_bound p (Undecided tree)) ds a

-- the greatest bound is decided first, and then the caps behind it
abbrev pub AreSettledCaps : DesignProblem → List CapDecision → AnswerParts → Type 0
AreSettledCaps p [] a = ⊥
AreSettledCaps p (first ∷ behind) a = (first.cap ≡ greatest_bound p) × AreCapsBehind p first.found behind a

-- one search after another called the advisors, one for each of these caps
abbrev pub AreAskedAtCaps : {A : Type 0} → (A → A → Type 0) → (A → List ℕ) → (A → List ℕ → List Candidate → ℕ) →
    (A → List ℕ → List Candidate → List ℕ) → (A → List ℕ → Entry → List ℕ) → DesignProblem → ℕ → ℕ → List CapDecision → List A → List A → Type 0
AreAskedAtCaps IsItself state would left after p top nodes =
    AreAskedInTurn (λ d. IsAskedAt IsItself state would left after p top nodes d.cap d.pool d.found)

-- a search called the advisors for each of the caps that settle the problem, in order, and the answer tells the result
abbrev pub IsAskedAnswering : {A : Type 0} → (A → A → Type 0) → (A → List ℕ) → (A → List ℕ → List Candidate → ℕ) →
    (A → List ℕ → List Candidate → List ℕ) → (A → List ℕ → Entry → List ℕ) → DesignProblem → ℕ → ℕ → List A → List A → AnswerParts → Type 0
IsAskedAnswering IsItself state would left after p top nodes old new a =
    (ds : List CapDecision) × AreSettledCaps p ds a × AreAskedAtCaps IsItself state would left after p top nodes ds old new

-- searches called the advisors, by their rules, for each of the caps that settle the problem, and the answer tells the
-- result
abbrev pub AreAskedAnswering : {A V : Type 0} {X : V → Type 0} → ((rules : V) → Ghosts (X rules)) → (A → V) → (A → List ℕ) →
    DesignProblem → ℕ → ℕ → List A → List A → AnswerParts → Type 0
AreAskedAnswering members rules state p top nodes =
    by_rules IsAskedAnswering members rules state p top nodes
