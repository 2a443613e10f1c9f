-- The turn that is held is that of the line.
use Rattle.std.proofs.Common.{◌^◌, ◌≤◌, sym, subst}
use Rattle.std.specs.Prelude.{pos, ◌<ℤ◌, ◌≤ℤ◌, nat_abs}
use Rattle.integer_pivots.specs.declared.turned_line.Turn.{Turn}
use Rattle.table_kernel.proofs.TurnArgs.{turn_read, turn_sizes}
use Rattle.table_kernel.proofs.kernel.Kernel.turn_at.Goals as goal

pub returns-clause-multiplier : goal.returns-clause-multiplier
returns-clause-multiplier c =
    let k = c.args.self.now in
    subst (λ (t : Turn). (pos 0 <ℤ t.multiplier) × (t.multiplier ≤ℤ pos (2 ^ 30)))
    (sym (turn_read k c.args.column c.args.var c.index.result.now c.requires.ready c.index.ensures)) (turn_sizes k c.args.column c.args.var c.requires.ready).0

pub returns-clause-factor : goal.returns-clause-factor
returns-clause-factor c =
    let k = c.args.self.now in
    subst (λ (t : Turn). nat_abs t.factor ≤ 2 ^ 30)
    (sym (turn_read k c.args.column c.args.var c.index.result.now c.requires.ready c.index.ensures)) (turn_sizes k c.args.column c.args.var c.requires.ready).1
