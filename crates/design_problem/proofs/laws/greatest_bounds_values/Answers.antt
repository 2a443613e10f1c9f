use Rattle.design_problem.proofs.GreatestLaws.{greatest_bounds}
use Rattle.design_problem.proofs.laws.greatest_bounds_values.Goals as goal

pub returns : goal.returns
returns c = greatest_bounds
