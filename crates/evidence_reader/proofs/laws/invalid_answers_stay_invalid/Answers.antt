use Rattle.evidence_reader.proofs.ValidAnswers.{invalid_stays}
use Rattle.evidence_reader.proofs.laws.invalid_answers_stay_invalid.Goals as goal

pub returns : goal.returns
returns c = invalid_stays
