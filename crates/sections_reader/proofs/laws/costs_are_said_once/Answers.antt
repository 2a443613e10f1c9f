use Rattle.sections_reader.proofs.SaidCosts.{said_once}
use Rattle.sections_reader.proofs.laws.costs_are_said_once.Goals as goal

pub returns : goal.returns
returns c = said_once
