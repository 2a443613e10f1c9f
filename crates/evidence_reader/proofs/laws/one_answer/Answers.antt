use Rattle.evidence_reader.proofs.OneAnswer.{texts_tell}
use Rattle.evidence_reader.proofs.laws.one_answer.Goals as goal

pub returns : goal.returns
returns c = texts_tell
