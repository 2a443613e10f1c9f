-- The zeros are as many as the columns.
use Rattle.integer_pivots.proofs.UnitLines.{zeros_long}
use Rattle.integer_pivots.proofs.first_lines.zero_line.Goals as goal

pub returns : goal.returns
returns c = zeros_long c.in_ok-zeros.field-0 c.args.width c.in_ok-zeros.ensures
