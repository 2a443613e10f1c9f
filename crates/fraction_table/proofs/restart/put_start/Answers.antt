-- One more member is put.
use Rattle.std.proofs.Common.{ap, length, arith}
use Rattle.fraction_table.proofs.Restarts.{start_all, start_next}
use Rattle.fraction_table.proofs.restart.put_start.Goals as goal

pub loop-var-preserved : goal.loop-var-preserved
loop-var-preserved c =
    start_next c.args.costs.now c.args.basis.now c.loop-var.basis c.as_slice-low.result.now c.loop-var.var c.requires.long c.as_slice-low.ensures
    (omega (arith, c.loop-var-test.true, ap length c.as_slice-low.ensures)) c.loop-var.invariant

pub returns : goal.returns
returns c =
    start_all c.args.costs.now c.args.basis.now c.loop-var.basis c.loop-var.var c.requires.long
    (omega (arith, c.loop-var-test.false, c.loop-var.auto.var-end, ap length c.as_slice-low.ensures)) c.loop-var.invariant
