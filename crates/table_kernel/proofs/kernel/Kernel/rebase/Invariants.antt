-- The bounds of the variables before the index have moved, and there is room for the others.
use Rattle.std.proofs.Common.{◌+◌}
use Rattle.fraction_table.specs.Moves.{IsMoved}
use Rattle.fraction_table.specs.Tableaus.{between}
use Rattle.table_kernel.specs.Kernels.{IsMoving, stated}
use Rattle.table_kernel.specs.Moves.{KeepsOfBox, MayMove}
use Rattle.table_kernel.proofs.Distances.{left_of}
use Rattle.table_kernel.proofs.kernel.Kernel.rebase.Given as goal

abbrev pub invariant-loop-var : goal.invariant-loop-var
invariant-loop-var l = record {
  kernel : IsMoving l.self;
  moved : IsMoved (stated l.initial.self) (between l.initial.self.table.costs l.costs l.var l.var) (stated l.self);
  keeps : KeepsOfBox l.initial.self l.self;
  room : MayMove l.self (left_of l.initial.self.table.costs.low l.costs.low l.var + left_of l.initial.self.table.costs.high l.costs.high l.var);
}
