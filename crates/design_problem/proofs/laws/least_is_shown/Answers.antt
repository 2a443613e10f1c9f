use Rattle.design_problem.proofs.ProblemTrees.{least_shown}
use Rattle.design_problem.proofs.laws.least_is_shown.Goals as goal

pub returns : goal.returns
returns c = least_shown
