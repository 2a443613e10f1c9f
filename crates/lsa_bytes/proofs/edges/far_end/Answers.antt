use Rattle.std.proofs.Common.{rules}
use Rattle.lsa_bytes.proofs.edges.far_end.Goals as goal

pub returns-in-1 : goal.returns-in-1
returns-in-1 c = search rules
