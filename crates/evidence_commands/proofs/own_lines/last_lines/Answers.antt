-- The last line that is left is passed or added.
use Rattle.std.proofs.Common.{◌≡◌, true, false, rules}
use Rattle.cost_base.specs.Lists.{same_bytes}
use Rattle.evidence_commands.proofs.OwnLines.{line_passed, line_added}
use Rattle.evidence_commands.proofs.own_lines.last_lines.Goals as goal

pub loop-line-preserved-in_ok-add_line : goal.loop-line-preserved-in_ok-add_line
loop-line-preserved-in_ok-add_line c =
    let own : same_bytes c.in-Some.line.now.router c.args.router.now ≡ true = search rules in
    line_added c.args.router.now c.args.lines.now c.loop-line.left.now c.in-Some.before.now c.loop-line.last.items
    c.add_line.new.last.items c.loop-line.seen c.add_line.new.seen c.in-Some.line.now c.in-Some.ensures.cases.0 own
    c.in_ok-add_line.ensures c.loop-line.invariant

pub loop-line-preserved : goal.loop-line-preserved
loop-line-preserved c =
    let other : same_bytes c.in-Some.line.now.router c.args.router.now ≡ false = search rules in
    line_passed c.args.router.now c.args.lines.now c.loop-line.left.now c.in-Some.before.now c.loop-line.last.items
    c.loop-line.seen c.in-Some.line.now c.in-Some.ensures.cases.0 other c.loop-line.invariant
