-- One line more stays small.
use Rattle.std.proofs.Common.{◌<◌, ◌≤◌, refl, length, arith, ℕ}
use Rattle.integer_pivots.specs.Turns.{StaysSmall}
use Rattle.integer_pivots.proofs.FailedTests.{failed, never}
use Rattle.integer_pivots.proofs.WrittenPlaces.{all_more}
use Rattle.table_kernel.specs.Turns.{LinesStaySmall, line_of, turn_of_line}
use Rattle.table_kernel.proofs.TurnArgs.{line_ready}
use Rattle.table_kernel.proofs.kernel.Kernel.lines_stay_small.Goals as goal

pub loop-var-init : goal.loop-var-init
loop-var-init c v v_in = absurd (omega (arith, v_in))

pub line_stays_small-requires : goal.line_stays_small-requires
line_stays_small-requires c =
    let k = c.args.self.now in
    record { ready = line_ready k c.args.column c.loop-var.var c.requires.ready (omega (arith, c.loop-var-test.true, c.len-var-end.ensures, k.lows.ok.0)) }

pub returns-then-not-line_stays_small : goal.returns-then-not-line_stays_small
returns-then-not-line_stays_small c =
    let k = c.args.self.now in
    let v_in : c.loop-var.var < length k.lows.items = omega (arith, c.loop-var-test.true, c.len-var-end.ensures, k.lows.ok.0) in
    never (λ (all : LinesStaySmall k c.args.column). failed c.line_stays_small.result c.if-not-line_stays_small.true c.line_stays_small.ensures
    (all c.loop-var.var v_in))

pub loop-var-preserved : goal.loop-var-preserved
loop-var-preserved c =
    let k = c.args.self.now in
    all_more (λ (v : ℕ). StaysSmall (turn_of_line k c.args.column v) (line_of k v) k.entering) c.loop-var.var c.loop-var.invariant
    (c.line_stays_small.ensures.0 c.if-not-line_stays_small.false)

pub returns : goal.returns
returns c =
    let k = c.args.self.now in
    let past : length k.lows.items ≤ c.loop-var.var = omega (arith, c.loop-var-test.false, c.len-var-end.ensures, k.lows.ok.0) in (
      λ holds v v_in. c.loop-var.invariant v (omega (arith, past, v_in)),
      λ all. refl,
    )
