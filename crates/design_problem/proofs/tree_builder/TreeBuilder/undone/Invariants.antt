use Rattle.std.proofs.Common.{◌≡◌, ◌++◌, length}
use Rattle.design_problem.specs.OpenPlaces.{undones}
use Rattle.design_problem.proofs.tree_builder.TreeBuilder.undone.Given as goal

abbrev pub invariant-loop-tree : goal.invariant-loop-tree
invariant-loop-tree l = l.tree.entries ++ undones (length l.tree.places) ≡ l.fn.self.entries ++ undones (length l.fn.self.places)

abbrev pub decreases-loop-tree : goal.decreases-loop-tree
decreases-loop-tree l = length l.tree.places
