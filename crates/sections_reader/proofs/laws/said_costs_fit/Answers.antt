use Rattle.sections_reader.proofs.SaidCosts.{said_fit}
use Rattle.sections_reader.proofs.laws.said_costs_fit.Goals as goal

pub returns : goal.returns
returns c = said_fit
