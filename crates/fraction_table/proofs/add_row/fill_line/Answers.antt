-- A line that is made in order is one of zeros again first.
use Rattle.std.proofs.Common.{◌∙◌, length}
use Rattle.fraction_lines.proofs.BlankLines.{blank_long, cleared_is}
use Rattle.fraction_table.proofs.add_row.fill_line.Goals as goal

pub fill_in_order-requires-clause-blank : goal.fill_in_order-requires-clause-blank
fill_in_order-requires-clause-blank c =
    cleared_is c.gather_line.new.row.line c.clear.new.self (length c.args.costs.now.low)
    (c.gather_line.ensures.width ∙ blank_long c.args.row.now.line (length c.args.costs.now.low) c.requires.row.blank) c.clear.ensures
