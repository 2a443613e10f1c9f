-- Line by line: none is taken at first, and in the end all are.
use Rattle.change_commands.proofs.WantedMoveLaws.{all_taken, line_refused, line_taken, none_taken}
use Rattle.change_commands.proofs.wanted_moves.wanted_costs.Goals as goal

pub loop-line-init : goal.loop-line-init
loop-line-init c =
    none_taken c.args.names.now c.args.present.now c.args.lines.now c.in_ok-costs.costs.items c.in_ok-seen.seen.items c.in_ok-costs.ensures.items
    c.in_ok-seen.ensures.counted c.in_ok-seen.ensures.none c.requires

pub take_line-requires-clause-costs : goal.take_line-requires-clause-costs
take_line-requires-clause-costs c = c.loop-line.invariant.costs_count

pub take_line-requires-clause-seen : goal.take_line-requires-clause-seen
take_line-requires-clause-seen c = c.loop-line.invariant.seen_count

pub returns-in-Err : goal.returns-in-Err
returns-in-Err c =
    line_refused c.args.names.now c.args.present.now c.args.lines.now c.loop-line.line-index c.loop-line.costs.items c.loop-line.seen.items
    c.line-item.result c.in-Err.fault c.loop-line.invariant c.loop-line-test.true c.line-item.is
    (c.in-Err.ensures c.loop-line.invariant.before c.loop-line.invariant.marked)

pub loop-line-preserved : goal.loop-line-preserved
loop-line-preserved c =
    line_taken c.args.names.now c.args.present.now c.args.lines.now c.loop-line.line-index c.loop-line.costs.items c.loop-line.seen.items
    c.line-item.result c.take_line.new.costs.items c.take_line.new.seen.items c.loop-line.invariant c.loop-line-test.true c.line-item.is
    (c.in-Ok.ensures c.loop-line.invariant.before c.loop-line.invariant.marked)

pub returns : goal.returns
returns c =
    all_taken c.args.names.now c.args.present.now c.args.lines.now c.loop-line.line-index c.loop-line.costs.items c.loop-line.seen.items
    c.loop-line.invariant c.loop-line-test.false
