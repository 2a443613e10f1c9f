-- The table stays one over its forms, and the rank of the one that is worked on rises towards a bound.
use Rattle.std.proofs.Common.{◌≡◌, ◌-◌, ◌^◌, length, true, false}
use Rattle.fraction_table.specs.Pivots.{KeepsBoxAndRows}
use Rattle.fraction_table.specs.Ranks.{past_heights, rank}
use Rattle.fraction_table.specs.ValidTables.{held_of}
use Rattle.fraction_table.specs.declared.stage.Stage.TheVariants.{Open}
use Rattle.exact_simplex.specs.Actives.{IsActive, WasHeldUp, table_of}
use Rattle.exact_simplex.proofs.active.ActiveTable.settle.Given as goal

abbrev pub invariant-rounds : goal.invariant-rounds
invariant-rounds l = record {
  active : IsActive l.self;
  keeps : KeepsBoxAndRows l.fn.self.kernel.table l.self.kernel.table;
  left : l.fn.self.in_kernel ≡ true → l.self.in_kernel ≡ false → WasHeldUp (held_of l.fn.self.kernel.table Open);
}

abbrev pub decreases-rounds : goal.decreases-rounds
decreases-rounds l = past_heights (table_of l.self).top ^ length (table_of l.self).costs.low - rank (table_of l.self)
