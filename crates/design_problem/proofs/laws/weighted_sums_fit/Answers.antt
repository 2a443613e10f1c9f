use Rattle.design_problem.proofs.FormSizes.{weighted_fits}
use Rattle.design_problem.proofs.laws.weighted_sums_fit.Goals as goal

pub returns : goal.returns
returns c = weighted_fits
