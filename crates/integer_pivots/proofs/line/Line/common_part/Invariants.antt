-- What the numbers before the counter have in common with the denominator and the constant.
use Rattle.std.proofs.Common.{◌-◌, ◌≤◌, length}
use Rattle.integer_pivots.proofs.LineLaws.{IsCommonPart}
use Rattle.integer_pivots.proofs.line.Line.common_part.Given as goal

abbrev pub invariant-loop-column : goal.invariant-loop-column
invariant-loop-column l = record {
  common : IsCommonPart l.self l.column l.part;
  until : l.column ≤ length l.self.numbers;
}

-- the columns that are left
abbrev pub decreases-loop-column : goal.decreases-loop-column
decreases-loop-column l = length l.self.numbers - l.column
