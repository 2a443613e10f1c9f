-- The bounds of the variables before the index have moved.
use Rattle.fraction_table.specs.Tableaus.{between}
use Rattle.fraction_table.specs.ValidTables.{HasRoom, IsUnboxedTable}
use Rattle.fraction_table.specs.Moves.{IsMoved, KeepsTableLines}
use Rattle.fraction_table.proofs.table.Table.move_bounds.Given as goal

abbrev pub invariant-loop-var : goal.invariant-loop-var
invariant-loop-var l = record {
  unboxed : IsUnboxedTable l.self;
  room : HasRoom l.self;
  moved : IsMoved l.initial.self (between l.initial.self.costs l.costs l.var l.var) l.self;
  keeps : KeepsTableLines l.initial.self l.self;
}
