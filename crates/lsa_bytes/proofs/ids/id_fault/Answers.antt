use Rattle.std.proofs.Common.{rules}
use Rattle.lsa_bytes.proofs.ids.id_fault.Goals as goal

pub returns-else-have_id : goal.returns-else-have_id
returns-else-have_id c = search rules
