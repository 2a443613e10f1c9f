use Rattle.design_problem.proofs.FormLaws.{fit-iff}
use Rattle.design_problem.proofs.laws.fit_costs_meet_rows.Goals as goal

pub returns : goal.returns
returns c = fit-iff
