use Rattle.design_problem.proofs.ProblemTrees.{tree_bounds}
use Rattle.design_problem.proofs.laws.trees_bound_costs.Goals as goal

pub returns : goal.returns
returns c = tree_bounds
