use Rattle.std.proofs.Common.{length}
use Rattle.text_lines.specs.Statements.{rules_of}
use Rattle.text_lines.proofs.StatementLaws.{HasRead}
use Rattle.text_lines.proofs.statements.read_statements.Given as goal

-- what was read are lines without a fault, behind which the reader stands
abbrev pub invariant-loop-line : goal.invariant-loop-line
invariant-loop-line g l =
    HasRead (g.R.StatementReader.took l.initial.reader)
    (rules_of l.fn.kind (g.R.StatementReader.fault_of l.initial.reader))
    l.fn.bytes l.lines l.reader l.begun

abbrev pub decreases-loop-line : goal.decreases-loop-line
decreases-loop-line g l = length l.lines.bytes
