use Rattle.read_back_laws.proofs.ReadBackLaws.{costs_read_back}
use Rattle.read_back_laws.proofs.laws.printed_costs_read_back.Goals as goal

pub returns : goal.returns
returns c = costs_read_back
