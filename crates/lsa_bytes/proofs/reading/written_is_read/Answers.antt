use Rattle.lsa_bytes.proofs.RoundTrip.{written_says}
use Rattle.lsa_bytes.proofs.reading.written_is_read.Goals as goal

pub returns : goal.returns
returns c = written_says
