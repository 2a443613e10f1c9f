-- The lines before the counter are put.
use Rattle.std.proofs.Common.{◌≡◌, ◌++◌, take, drop}
use Rattle.table_kernel.specs.Kernels.{kernel_lines}
use Rattle.table_kernel.specs.Restated.{KeepsAllButLinesOf}
use Rattle.table_kernel.proofs.kernel.Kernel.restate.Given as goal

abbrev pub invariant-loop-place : goal.invariant-loop-place
invariant-loop-place l = record {
  lines : l.self.table.lines.items ≡ take l.place (kernel_lines l.initial.self) ++ drop l.place l.initial.self.table.lines.items;
  keeps : KeepsAllButLinesOf l.initial.self l.self;
}
