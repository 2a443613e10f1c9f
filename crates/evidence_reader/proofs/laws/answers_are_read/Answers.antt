use Rattle.evidence_reader.proofs.NoRefusal.{texts_read}
use Rattle.evidence_reader.proofs.laws.answers_are_read.Goals as goal

pub returns : goal.returns
returns c = texts_read
