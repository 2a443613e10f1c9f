use Rattle.std.proofs.Common.{◌↔◌, length}
use Rattle.text_lines.specs.Numbers.{split}
use Rattle.begun_lines.specs.BegunLines.{GoesOn, PartsWords}
use Rattle.begun_lines.proofs.entries.goes_on_with_parts.Given as goal

abbrev pub invariant-loop-row : goal.invariant-loop-row
invariant-loop-row l = GoesOn (PartsWords l.least) l.text l.line.room ↔ GoesOn (PartsWords 0) l.line.text.now l.line.room

abbrev pub decreases-loop-row : goal.decreases-loop-row
decreases-loop-row l = length (split 32 l.text)
