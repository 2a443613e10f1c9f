-- Each variable has a range, and a place among the present costs.
use Rattle.std.proofs.Common.{ap, arith, length}
use Rattle.least_change.proofs.boxes.kept_box.Goals as goal

pub bounds-present-var : goal.bounds-present-var
bounds-present-var c =
    let same = ap length c.present-present.ensures in
    let within = c.requires c.loop-var.var-index 0 c.loop-var-test.true in
    omega (arith, same, within, c.keeps_conditions.ensures.present.counted)

pub pin_if_any-requires-clause-high : goal.pin_if_any-requires-clause-high
pin_if_any-requires-clause-high c =
    let within = c.requires c.loop-var.var-index 0 c.loop-var-test.true in
    omega (arith, within, c.loop-var.invariant.high, c.in_ok-costs.ensures.ranges.high_count)
