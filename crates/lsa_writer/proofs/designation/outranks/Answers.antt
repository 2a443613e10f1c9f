use Rattle.std.proofs.Common.{rules}
use Rattle.lsa_writer.proofs.designation.outranks.Goals as goal

pub returns-then-member-other : goal.returns-then-member-other
returns-then-member-other c = search rules
