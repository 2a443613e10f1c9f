use Rattle.std.proofs.Common.{rules}
use Rattle.printed_rows.proofs.new_numbers.renumbered_entry.Goals as goal

pub returns-in-Tighten : goal.returns-in-Tighten
returns-in-Tighten c = search rules
