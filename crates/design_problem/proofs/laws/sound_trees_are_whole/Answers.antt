use Rattle.design_problem.proofs.TreeShapes.{sound_whole}
use Rattle.design_problem.proofs.laws.sound_trees_are_whole.Goals as goal

pub returns : goal.returns
returns c = sound_whole
