use Rattle.design_problem.proofs.CaseTrees.{one_tree}
use Rattle.design_problem.proofs.laws.entries_are_trees.Goals as goal

pub returns : goal.returns
returns c = one_tree
