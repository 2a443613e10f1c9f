-- The lines of the variables before the counter were put.
use Rattle.std.proofs.Common.{◌≡◌, map}
use Rattle.cost_base.specs.Lists.{numbers_from}
use Rattle.integer_pivots.proofs.first_lines.unit_lines.Given as goal
use Rattle.integer_pivots.specs.UnitLines.{unit_line_of}

abbrev pub invariant-loop-var : goal.invariant-loop-var
invariant-loop-var l = l.lines.items ≡ map (unit_line_of l.width) (numbers_from 0 l.var)
