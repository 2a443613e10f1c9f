use Rattle.std.proofs.Common.{length}
use Rattle.config_reader.proofs.HeardSteps.{HeardTo}
use Rattle.config_reader.proofs.reader.read_lines.Given as goal

-- the reader keeps what the lines up to what is left say
abbrev pub invariant-loop-line : goal.invariant-loop-line
invariant-loop-line l = HeardTo l.bytes l.lines l.reader

abbrev pub decreases-loop-line : goal.decreases-loop-line
decreases-loop-line l = length l.lines.bytes
