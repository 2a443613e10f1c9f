use Rattle.evidence_reader.proofs.OnePlace.{one_place}
use Rattle.evidence_reader.proofs.laws.lines_lead_once.Goals as goal

pub returns : goal.returns
returns c = one_place
