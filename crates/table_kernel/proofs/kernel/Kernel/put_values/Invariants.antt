-- The values before the counter are put.
use Rattle.std.proofs.Common.{◌≡◌, ℕ, ◌<◌, length}
use Rattle.std.specs.Prelude.{slice_index}
use Rattle.table_kernel.specs.Kernels.{width_of}
use Rattle.table_kernel.proofs.Corners.{value_over}
use Rattle.table_kernel.proofs.kernel.Kernel.put_values.Given as goal

abbrev pub invariant-loop-var : goal.invariant-loop-var
invariant-loop-var l = record {
  places : length l.into ≡ width_of l.self;
  values : (var : ℕ) → var < l.var → slice_index l.into var ≡ value_over l.self l.divisor l.scale var;
}
