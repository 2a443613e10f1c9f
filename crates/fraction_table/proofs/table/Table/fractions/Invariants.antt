-- The multipliers of the columns before the index were put.
use Rattle.std.proofs.Common.{◌≡◌, [], ◌∷◌, ◌++◌, drop, take}
use Rattle.std.specs.Prelude.{pos}
use Rattle.whole_numbers.specs.Fractions.{whole}
use Rattle.fraction_table.specs.Multipliers.{columns_numbered, numbered}
use Rattle.fraction_table.specs.Pivots.{line_at, member_at}
use Rattle.fraction_table.proofs.table.Table.fractions.Given as goal

abbrev pub invariant-loop-column : goal.invariant-loop-column
invariant-loop-column l =
    l.parts.items ≡ numbered (member_at l.self l.line) (whole (pos 1) ∷ [])
    ++ columns_numbered (take l.column l.self.basis.items) (drop 1 (line_at l.self l.line))
