-- The rows before the index are covered.
use Rattle.std.proofs.Common.{take}
use Rattle.std.specs.Prelude.{All}
use Rattle.table_kernel.specs.Rows.{IsCovered}
use Rattle.table_kernel.proofs.kernel.Kernel.covers_rows.Given as goal

abbrev pub invariant-loop-row : goal.invariant-loop-row
invariant-loop-row l = All IsCovered (take l.row l.self.table.rows.items)
