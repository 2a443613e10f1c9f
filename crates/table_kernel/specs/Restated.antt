-- A kernel whose table's lines are put. No public clause cites it.
use Rattle.std.specs.Prelude.{◌≡◌}
use Rattle.fraction_table.specs.Moves.{KeepsAllButLines}
use Rattle.fraction_table.specs.RowLines.{HasPlace}
use Rattle.table_kernel.specs.declared.kernel.Kernel.{Kernel}

-- the kernels differ in the lines of their table alone; a place for a row stays
pub record KeepsAllButLinesOf (old new : Kernel) : Type 0 where
  pub table : KeepsAllButLines old.table new.table
  pub common : new.common ≡ old.common
  pub lows : new.lows ≡ old.lows
  pub leads : new.leads ≡ old.leads
  pub constants : new.constants ≡ old.constants
  pub uses : new.uses ≡ old.uses
  pub turns : new.turns ≡ old.turns
  pub left : new.left ≡ old.left
  pub entering : new.entering ≡ old.entering
  pub place : HasPlace old.table → HasPlace new.table
