-- The order of caps on small examples: a climb from 1, and costs that are found at the greatest bound 9 and at 2.
use Rattle.std.proofs.Common.{◌≡◌, refl, [], ◌∷◌}
use Rattle.std.specs.Prelude.{None, Some}
use Rattle.design_problem.specs.declared.tree.Entry.TheVariants.{Undone}
use Rattle.design_problem.specs.Problems.{DesignProblem}
use Rattle.design_problem.specs.Answers.{AnswerParts}
use Rattle.form_search.specs.declared.found.Found.TheVariants.{Costs, Refuted}
use Rattle.cost_branching.specs.Pools.{Pooled}
use Rattle.least_bound.specs.AdvisorsAsked.{AreCapsInOrder, CapsSoFar, TellsCaps, after_cap, climbed_cap, halved_cap}

-- from the greatest lower bound 1 the climb goes to 2, 4 and 8, but not beyond the middle
climbed : (climbed_cap 1 1 50 ≡ Some 2) × (climbed_cap 1 2 50 ≡ Some 4) × (climbed_cap 1 4 50 ≡ Some 8) × (climbed_cap 1 4 9 ≡ Some 6)
climbed = (refl, refl, refl, refl)

-- nothing is left next to the least cap that wasn't refuted, nor is the greatest lower bound itself
ended : (climbed_cap 1 4 5 ≡ None) × (climbed_cap 1 1 2 ≡ None) × (halved_cap 3 3 ≡ None)
ended = (refl, refl, refl)

-- costs of greatest cost 4 were found, and fit costs have at least 1
abbrev begun : CapsSoFar
begun = record { least = 1; most = 4; costs = Some (4 ∷ 2 ∷ []); refuted = None; undecided = None }

-- these lead to the caps 2 and 3, the first of which is refuted, and costs of greatest cost 3 are found at the second
halved : (p : DesignProblem) (pool : Pooled) (a : AnswerParts) →
    TellsCaps p (after_cap (after_cap begun 2 (Refuted (Undone ∷ []))) 3 (Costs (3 ∷ 3 ∷ []))) a →
    AreCapsInOrder p begun
    (record { cap = 2; pool = pool; found = Refuted (Undone ∷ []) } ∷ record { cap = 3; pool = pool; found = Costs (3 ∷ 3 ∷ []) } ∷ []) a
halved p pool a tells = (refl, (refl, (refl, tells)))
