use Rattle.lsa_bytes.proofs.Pieces.{one_outcome}
use Rattle.lsa_bytes.proofs.reading.comes_to_one.Goals as goal

pub returns : goal.returns
returns c = one_outcome
