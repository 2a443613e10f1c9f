-- The order of sets on a small example: of two requests that are a conflict by a row of the second one alone.
use Rattle.std.proofs.Common.{◌≡◌, refl, List, [], ◌∷◌, arith}
use Rattle.std.specs.Prelude.{ℕ}
use Rattle.design_problem.specs.declared.form.Row.{Row}
use Rattle.design_problem.specs.declared.tree.Entry.{Entry}
use Rattle.form_search.specs.declared.found.Found.TheVariants.{Costs, Refuted}
use Rattle.cost_branching.specs.Pools.{Pooled}
use Rattle.least_conflict.specs.declared.conflict.Conflict.{Conflict}
use Rattle.least_conflict.specs.AdvisorsAsked.{AreSetsInOrder, IsLeastConflictOf}
use Rattle.least_conflict.specs.AdvisorsAsked.AreSetsInOrder.{unused, needed, shown}

-- The first stays out without a search, since no row is of it. Without the second there are costs, so it stays; and the
-- set that is left is searched at last.
second_alone : (row : Row) (pool end : Pooled) (w : List ℕ) (tree : List Entry) (c : Conflict) → IsLeastConflictOf (1 ∷ []) end tree (w ∷ []) c →
    AreSetsInOrder (0 ∷ 1 ∷ []) (record row { request = 1 } ∷ []) []
    (record { set = []; pool = pool; found = Costs w } ∷ record { set = 1 ∷ []; pool = end; found = Refuted tree } ∷ []) c
second_alone row pool end w tree c least =
    unused _ _ _ _ c (omega arith) refl
    (needed _ _ _ pool w _ c (omega arith) refl
    (shown _ _ _ end tree c (omega arith) least))
