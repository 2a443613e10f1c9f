use Rattle.std.proofs.Common.{◌↔◌, length}
use Rattle.text_lines.specs.Numbers.{split}
use Rattle.begun_lines.specs.BegunLines.{GoesOn, MembersWords}
use Rattle.begun_lines.proofs.entries.goes_on_with_members.Given as goal

abbrev pub invariant-loop-rest : goal.invariant-loop-rest
invariant-loop-rest l = GoesOn MembersWords l.text l.line.room ↔ GoesOn MembersWords l.line.text.now l.line.room

abbrev pub decreases-loop-rest : goal.decreases-loop-rest
decreases-loop-rest l = length (split 32 l.text)
