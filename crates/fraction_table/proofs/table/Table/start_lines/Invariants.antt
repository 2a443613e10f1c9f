-- The lines before the index are those of the starting basis.
use Rattle.std.proofs.Common.{◌≡◌, ◌++◌, map, take, drop, length}
use Rattle.fraction_table.specs.ValidTables.{members_of_box, starting_line}
use Rattle.fraction_table.specs.Moves.{HasShape, KeepsAllButLines}
use Rattle.fraction_table.proofs.table.Table.start_lines.Given as goal

abbrev pub invariant-loop-line : goal.invariant-loop-line
invariant-loop-line l = record {
  lines : l.self.lines.items ≡ take l.line
      (map (starting_line l.costs l.initial.self.rows.items) (members_of_box l.costs (length l.initial.self.rows.items)))
      ++ drop l.line l.initial.self.lines.items;
  shape : HasShape l.self;
  keeps : KeepsAllButLines l.initial.self l.self;
}
