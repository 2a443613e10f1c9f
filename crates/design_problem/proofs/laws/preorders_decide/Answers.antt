use Rattle.design_problem.proofs.TreeShapes.{preorder_decides}
use Rattle.design_problem.proofs.laws.preorders_decide.Goals as goal

pub returns : goal.returns
returns c = preorder_decides
