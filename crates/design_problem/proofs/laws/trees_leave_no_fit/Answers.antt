use Rattle.design_problem.proofs.ProblemTrees.{tree_leaves_none}
use Rattle.design_problem.proofs.laws.trees_leave_no_fit.Goals as goal

pub returns : goal.returns
returns c = tree_leaves_none
