use Rattle.design_problem.proofs.FormSizes.{value_size}
use Rattle.design_problem.proofs.laws.sizes_bound_values.Goals as goal

pub returns : goal.returns
returns c = value_size
