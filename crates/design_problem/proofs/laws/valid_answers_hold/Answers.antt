use Rattle.design_problem.proofs.ProblemTrees.{valid_holds}
use Rattle.design_problem.proofs.laws.valid_answers_hold.Goals as goal

pub returns : goal.returns
returns c = valid_holds
