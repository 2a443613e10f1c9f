-- One line more has turned.
use Rattle.std.proofs.Common.{◌<◌, ◌≡◌, length, subst, arith}
use Rattle.table_kernel.proofs.LowestRows.{AreLowestBefore, bounded_lowest, may_turn_between, none_turned_to, one_more_turned_to, turned_lowest}
use Rattle.table_kernel.proofs.TurnedRows.{ready_between}
use Rattle.table_kernel.proofs.kernel.Kernel.turn_lines_to_lowest.Goals as goal

pub loop-var-init : goal.loop-var-init
loop-var-init c = none_turned_to c.args.self.now c.args.column

pub turn_line_to_lowest-requires-clause-ready : goal.turn_line_to_lowest-requires-clause-ready
turn_line_to_lowest-requires-clause-ready c =
    let k = c.args.self.now in
    let v_in : c.loop-var.var < length k.lows.items = omega (arith, c.loop-var-test.true, c.len-var-end.ensures, k.lows.ok.0) in
    ready_between _ k c.loop-var.self c.args.column c.loop-var.var c.requires.ready c.loop-var.invariant v_in

pub turn_line_to_lowest-requires-clause-may : goal.turn_line_to_lowest-requires-clause-may
turn_line_to_lowest-requires-clause-may c =
    let k = c.args.self.now in
    let v_in : c.loop-var.var < length k.lows.items = omega (arith, c.loop-var-test.true, c.len-var-end.ensures, k.lows.ok.0) in
    may_turn_between k c.args.column c.args.common c.requires.common c.requires.fits c.loop-var.self c.loop-var.var c.loop-var.invariant v_in

pub loop-var-preserved : goal.loop-var-preserved
loop-var-preserved c =
    one_more_turned_to c.args.self.now c.loop-var.self c.turn_line_to_lowest.new.self c.args.column c.loop-var.var c.loop-var.invariant
    c.turn_line_to_lowest.ensures.turned c.turn_line_to_lowest.ensures.keeps

pub returns-clause-turned : goal.returns-clause-turned
returns-clause-turned c =
    let k = c.args.self.now in
    let all : c.loop-var.var ≡ length k.lows.items = omega (arith, c.loop-var-test.false, c.loop-var.auto.var-end, c.len-var-end.ensures, k.lows.ok.0) in
    turned_lowest k c.loop-var.self c.args.column (subst (AreLowestBefore k c.loop-var.self c.args.column) all c.loop-var.invariant)

pub returns-clause-bounded : goal.returns-clause-bounded
returns-clause-bounded c =
    let k = c.args.self.now in
    let all : c.loop-var.var ≡ length k.lows.items = omega (arith, c.loop-var-test.false, c.loop-var.auto.var-end, c.len-var-end.ensures, k.lows.ok.0) in
    bounded_lowest k c.args.column c.args.common c.requires.common c.requires.fits c.loop-var.self
    (subst (AreLowestBefore k c.loop-var.self c.args.column) all c.loop-var.invariant)
