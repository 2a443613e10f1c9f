use Rattle.sections_reader.proofs.SaidCosts.{own_said}
use Rattle.sections_reader.proofs.laws.answers_say_their_costs.Goals as goal

pub returns : goal.returns
returns c = own_said
