-- Each step fills one more place.
use Rattle.std.proofs.Common.{ap, length, arith}
use Rattle.fraction_table.proofs.RowFills.{filled_first, filled_more}
use Rattle.fraction_table.proofs.add_row.fill_in_order.Goals as goal

pub loop-column-init : goal.loop-column-init
loop-column-init c =
    filled_first c.args.top c.args.costs.now c.args.form.now c.args.lines.now c.args.line.now c.set_constant.new.self c.in_ok-sum_of_form.field-0
    c.requires.blank c.in_ok-sum_of_form.ensures.exact c.in_ok-sum_of_form.ensures.number c.set_constant.ensures

pub loop-column-preserved : goal.loop-column-preserved
loop-column-preserved c =
    filled_more c.args.top c.args.costs.now c.args.form.now c.args.lines.now c.loop-column.column c.loop-column.line c.push.new.self c.in_ok-entry.entry
    (omega (arith, c.loop-column-test.true, ap length c.as_slice.ensures)) c.in_ok-entry.ensures.exact
    c.in_ok-entry.ensures.number c.push.ensures c.loop-column.invariant
