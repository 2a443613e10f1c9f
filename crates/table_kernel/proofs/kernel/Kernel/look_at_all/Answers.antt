-- A kernel stays one, and where one column is left it is so for all variables.
use Rattle.std.proofs.Common.{◌≡◌, sym, ap, subst, length, arith}
use Rattle.integer_pivots.specs.Lines.{IsLine, rows_of}
use Rattle.table_kernel.specs.declared.kernel.Kernel.{Kernel}
use Rattle.table_kernel.proofs.LeftColumns.{one_left}
use Rattle.table_kernel.proofs.SameButRoom.{keeps_kernel, left_keeps}
use Rattle.table_kernel.proofs.kernel.Kernel.look_at_all.Goals as goal

pub look_at-requires-clause-kernel : goal.look_at-requires-clause-kernel
look_at-requires-clause-kernel c =
    keeps_kernel c.args.self.now c.loop-var.self
    (left_keeps c.args.self.now c.loop-var.self c.loop-var.invariant.keeps
    (omega (arith, c.loop-var.invariant.room))) c.requires.kernel

pub look_at-requires-clause-line : goal.look_at-requires-clause-line
look_at-requires-clause-line c =
    subst IsLine (sym (ap (λ (k : Kernel). k.entering) c.loop-var.invariant.keeps)) c.requires.line

pub returns-then-len-eq1-clause-left : goal.returns-then-len-eq1-clause-left
returns-then-len-eq1-clause-left c =
    let k = c.loop-var.self in
    let one : length k.left.items ≡ 1 = omega (arith, c.if-len-eq1.true, c.len.ensures, k.left.ok.0) in
    let l = c.loop-var.invariant.left in
    record {
      some = l.some;
      columns = one_left (rows_of k.lows.items) k.entering.numbers c.loop-var.var (length k.lows.items) k.left.items one l.columns;
    }
