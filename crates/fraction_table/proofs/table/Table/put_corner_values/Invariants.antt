-- The values before the counter are those of the corner.
use Rattle.std.proofs.Common.{◌≡◌, ℕ, ◌<◌, length}
use Rattle.std.specs.Prelude.{slice_index}
use Rattle.fraction_table.specs.Corners.{corner_entry}
use Rattle.fraction_table.proofs.table.Table.put_corner_values.Given as goal

abbrev pub invariant-loop-var : goal.invariant-loop-var
invariant-loop-var l = record {
  places : length l.into ≡ length l.self.costs.low;
  values : (var : ℕ) → var < l.var → slice_index l.into var ≡ corner_entry l.self l.scale var;
}
