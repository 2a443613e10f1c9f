-- All lines of the box were put.
use Rattle.std.proofs.Common.{ap, length}
use Rattle.fraction_table.proofs.StartLines.{bound_lines}
use Rattle.fraction_table.proofs.start.box_lines.Goals as goal

pub returns-clause-lines : goal.returns-clause-lines
returns-clause-lines c =
    bound_lines c.args.costs.now c.new-lines.result.items c.push_low_lines.new.lines.items c.push_high_lines.new.lines.items
    _ c.as_slice-low.result.now c.as_slice.result.now c.new-lines.ensures.items (ap length c.as_slice-low.ensures)
    c.as_slice-low.ensures c.as_slice.ensures c.in_ok-push_low_lines.ensures.lines c.in_ok-push_high_lines.ensures.lines
