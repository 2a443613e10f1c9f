use Rattle.evidence_reader.proofs.Lawful.{answer-leads}
use Rattle.evidence_reader.proofs.laws.answers_are_lawful.Goals as goal

pub returns : goal.returns
returns c = λ a value. answer-leads a value.fits value.bounds value.count
