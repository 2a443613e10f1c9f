-- The multiple was taken away in the columns before the index.
use Rattle.std.proofs.Common.{◌≡◌}
use Rattle.std.specs.Prelude.{◌-ℤ◌, ◌*ℤ◌}
use Rattle.whole_numbers.specs.Lists.{number_at}
use Rattle.integer_pivots.proofs.TouchedColumns.{AreTouched}
use Rattle.integer_pivots.proofs.turned_line.take_away.Given as goal

abbrev pub invariant-loop-index : goal.invariant-loop-index
invariant-loop-index l =
    AreTouched (λ c z. z ≡ (number_at l.fn.numbers c -ℤ (l.factor *ℤ number_at l.line c))) l.touched l.index l.fn.numbers l.numbers
