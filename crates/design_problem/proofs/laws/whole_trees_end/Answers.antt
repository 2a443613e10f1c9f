use Rattle.design_problem.proofs.TreeShapes.{whole_end}
use Rattle.design_problem.proofs.laws.whole_trees_end.Goals as goal

pub returns : goal.returns
returns c = whole_end 1
