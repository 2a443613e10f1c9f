use Rattle.std.proofs.Common.{◌+◌, ◌↔◌, length, sym, ap, subst, arith}
use Rattle.begun_lines.specs.BegunLines.{GoesOn, PartsWords}
use Rattle.begun_lines.proofs.BegunEntries.{part_skip, part_falls, part_last}
use Rattle.begun_lines.proofs.entries.goes_on_with_parts.Goals as goal

pub loop-row-init : goal.loop-row-init
loop-row-init c = (λ on. on, λ on. on)

pub returns-then-from-least : goal.returns-then-from-least
returns-then-from-least c =
    let falls = part_falls c.loop-row.text.now c.in-Some.rest.now c.args.line.room c.loop-row.least c.in-Some.row
    c.in-Some.ensures.0 (omega arith) c.in-Some.ensures.3 in
    (λ no. absurd (cc), λ on. falls.1 (c.loop-row.invariant.1 on))

pub loop-row-smaller : goal.loop-row-smaller
loop-row-smaller c = omega (arith, ap length c.in-Some.ensures.3)

pub loop-row-preserved : goal.loop-row-preserved
loop-row-preserved c =
    let skip =
    subst (λ n. GoesOn (PartsWords c.loop-row.least) c.loop-row.text.now c.args.line.room
    ↔ GoesOn (PartsWords (n + 1)) c.in-Some.rest.now c.args.line.room) (sym c.from-least.ensures)
    (part_skip c.loop-row.text.now c.in-Some.rest.now c.args.line.room c.loop-row.least c.in-Some.row
    c.in-Some.ensures.0 (omega arith) c.in-Some.ensures.1 c.in-Some.ensures.2 c.in-Some.ensures.3) in
    (λ on. c.loop-row.invariant.0 (skip.1 on), λ on. skip.0 (c.loop-row.invariant.1 on))

pub returns : goal.returns
returns c =
    let last = part_last c.loop-row.text.now c.args.line.room c.loop-row.least c.in_default.ensures c.ends_with_part.result c.ends_with_part.ensures in
    (λ is. c.loop-row.invariant.0 (last.0 is), λ on. last.1 (c.loop-row.invariant.1 on))
