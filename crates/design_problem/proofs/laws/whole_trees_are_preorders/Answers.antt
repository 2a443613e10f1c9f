use Rattle.design_problem.proofs.TreeShapes.{whole-iff}
use Rattle.design_problem.proofs.laws.whole_trees_are_preorders.Goals as goal

pub returns : goal.returns
returns c = whole-iff
