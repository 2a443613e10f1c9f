-- One line more has turned.
use Rattle.std.proofs.Common.{◌<◌, ◌≡◌, length, subst, arith}
use Rattle.table_kernel.proofs.TurnedRows.{AreTurnedBefore, all_turned, may_between, none_turned, one_more_turned, ready_between}
use Rattle.table_kernel.proofs.kernel.Kernel.turn_lines.Goals as goal

pub loop-var-init : goal.loop-var-init
loop-var-init c = none_turned c.args.self.now c.args.column

pub turn_line-requires-clause-ready : goal.turn_line-requires-clause-ready
turn_line-requires-clause-ready c =
    let k = c.args.self.now in
    let v_in : c.loop-var.var < length k.lows.items = omega (arith, c.loop-var-test.true, c.len-var-end.ensures, k.lows.ok.0) in
    ready_between _ k c.loop-var.self c.args.column c.loop-var.var c.requires.ready c.loop-var.invariant v_in

pub turn_line-requires-clause-may : goal.turn_line-requires-clause-may
turn_line-requires-clause-may c =
    let k = c.args.self.now in
    let v_in : c.loop-var.var < length k.lows.items = omega (arith, c.loop-var-test.true, c.len-var-end.ensures, k.lows.ok.0) in
    may_between k c.loop-var.self c.args.column c.loop-var.var c.requires.ready c.loop-var.invariant v_in c.requires.may

pub loop-var-preserved : goal.loop-var-preserved
loop-var-preserved c =
    one_more_turned c.args.self.now c.loop-var.self c.turn_line.new.self c.args.column c.loop-var.var c.loop-var.invariant
    c.turn_line.ensures.turned c.turn_line.ensures.keeps

pub returns-clause-turned : goal.returns-clause-turned
returns-clause-turned c =
    let k = c.args.self.now in
    let all : c.loop-var.var ≡ length k.lows.items = omega (arith, c.loop-var-test.false, c.loop-var.auto.var-end, c.len-var-end.ensures, k.lows.ok.0) in
    all_turned k c.loop-var.self c.args.column (subst (AreTurnedBefore k c.loop-var.self c.args.column) all c.loop-var.invariant)
