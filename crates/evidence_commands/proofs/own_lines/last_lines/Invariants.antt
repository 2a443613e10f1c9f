-- Lines are left in front, and of those behind the last ones were found.
use Rattle.std.proofs.Common.{length}
use Rattle.evidence_commands.proofs.OwnLines.{LastSoFar}
use Rattle.evidence_commands.proofs.own_lines.last_lines.Given as goal

abbrev pub invariant-loop-line : goal.invariant-loop-line
invariant-loop-line l = LastSoFar l.router l.lines l.left l.last.items l.seen

abbrev pub decreases-loop-line : goal.decreases-loop-line
decreases-loop-line l = length l.left
