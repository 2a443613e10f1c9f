use Rattle.evidence_reader.proofs.ValidAnswers.{refused_invalid}
use Rattle.evidence_reader.proofs.laws.refused_texts_are_invalid.Goals as goal

pub returns : goal.returns
returns c = refused_invalid
