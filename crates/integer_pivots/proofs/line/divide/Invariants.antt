-- The numbers before the counter are done.
use Rattle.std.proofs.Common.{◌≡◌, ◌-◌, pos, length}
use Rattle.std.specs.Prelude.{◌*ℤ◌}
use Rattle.whole_numbers.specs.Lists.{number_at}
use Rattle.integer_pivots.proofs.WrittenPlaces.{AreWritten}
use Rattle.integer_pivots.proofs.line.divide.Given as goal

abbrev pub invariant-loop-column : goal.invariant-loop-column
invariant-loop-column l = AreWritten (λ c z. (z *ℤ l.part) ≡ number_at l.fn.numbers c) (pos 0) l.fn.numbers l.column l.numbers

-- the columns that are left
abbrev pub decreases-loop-column : goal.decreases-loop-column
decreases-loop-column l = length l.fn.numbers - l.column
