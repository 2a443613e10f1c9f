-- The bit of the column is set, and none is taken away.
use Rattle.std.proofs.Common.{◌*◌, ◌%◌, ◌^◌}
use Rattle.fraction_lines.proofs.MarkLaws.{set_here, set_kept}
use Rattle.fraction_lines.proofs.marks.with_bit.Goals as goal

pub returns-clause-here : goal.returns-clause-here
returns-clause-here c = set_here c.args.bits c.args.number

pub returns-clause-kept : goal.returns-clause-kept
returns-clause-kept c k = set_kept c.args.bits (1 * 2 ^ (c.args.number % 128) % 2 ^ 128) k
