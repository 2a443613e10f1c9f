use Rattle.design_problem.proofs.TreeShapes.{few_entries}
use Rattle.design_problem.proofs.laws.trees_are_small.Goals as goal

pub returns : goal.returns
returns c = few_entries
