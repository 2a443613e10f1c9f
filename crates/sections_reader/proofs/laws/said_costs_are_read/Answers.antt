use Rattle.sections_reader.proofs.SaidCosts.{said_read}
use Rattle.sections_reader.proofs.laws.said_costs_are_read.Goals as goal

pub returns : goal.returns
returns c = said_read
