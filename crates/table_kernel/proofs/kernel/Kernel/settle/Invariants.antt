-- The kernel stays one over its forms, and the rank of the table that it stands for rises towards a bound.
use Rattle.std.proofs.Common.{◌-◌, ◌^◌, ◌≤◌, length}
use Rattle.fraction_table.specs.Pivots.{KeepsBoxAndRows}
use Rattle.fraction_table.specs.Ranks.{past_heights, rank}
use Rattle.table_kernel.specs.Kernels.{IsKernel, stated}
use Rattle.table_kernel.proofs.kernel.Kernel.settle.Given as goal

abbrev pub invariant-pivots : goal.invariant-pivots
invariant-pivots l = record {
  kernel : IsKernel l.self;
  keeps : KeepsBoxAndRows (stated l.fn.self) (stated l.self);
  risen : rank (stated l.fn.self) ≤ rank (stated l.self);
}

abbrev pub decreases-pivots : goal.decreases-pivots
decreases-pivots l = past_heights l.self.table.top ^ length l.self.table.costs.low - rank (stated l.self)
