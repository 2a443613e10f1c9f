use Rattle.design_problem.proofs.GreatestLaws.{greatest_reached}
use Rattle.design_problem.proofs.laws.greatest_is_reached.Goals as goal

pub returns : goal.returns
returns c = greatest_reached
