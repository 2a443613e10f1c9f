use Rattle.design_problem.proofs.TreeLaws.{closed_tree_none}
use Rattle.design_problem.proofs.laws.closed_trees_leave_none.Goals as goal

pub returns : goal.returns
returns c = closed_tree_none
