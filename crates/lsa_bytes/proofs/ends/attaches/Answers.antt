use Rattle.std.proofs.Common.{rules}
use Rattle.lsa_bytes.proofs.ends.attaches.Goals as goal

pub returns-in-Attached : goal.returns-in-Attached
returns-in-Attached c = search rules
