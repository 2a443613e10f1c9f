-- The line of zeros is as long as its columns and its constant.
use Rattle.std.proofs.Common.{◌∙◌, ap, length}
use Rattle.fraction_lines.proofs.BlankLines.{blank_size}
use Rattle.fraction_table.proofs.start.bound_line.Goals as goal

pub put_unit_line-requires-clause-width : goal.put_unit_line-requires-clause-width
put_unit_line-requires-clause-width c = ap length c.in_ok-line.ensures ∙ blank_size c.args.width
