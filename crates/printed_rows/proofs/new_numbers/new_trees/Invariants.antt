use Rattle.std.proofs.Common.{◌≡◌, map, take}
use Rattle.design_problem.specs.Renumbering.{renumbered}
use Rattle.printed_rows.specs.NewNumbers.{number_given}
use Rattle.printed_rows.proofs.new_numbers.new_trees.Given as goal

abbrev pub invariant-loop-tree : goal.invariant-loop-tree
invariant-loop-tree l = l.new.items ≡ map (map (renumbered (number_given l.numbers))) (take l.tree-index l.trees)
