-- The numbers before the counter are multiplied; those of them that aren't among the first are 0.
use Rattle.std.proofs.Common.{◌≡◌, ℕ, ◌-◌, ◌<◌, ◌≤◌, pos, length}
use Rattle.std.specs.Prelude.{◌*ℤ◌}
use Rattle.whole_numbers.specs.Lists.{number_at}
use Rattle.integer_pivots.proofs.WrittenPlaces.{AreWritten}
use Rattle.integer_pivots.proofs.turned_line.multiply_first.Given as goal

abbrev pub invariant-loop-column : goal.invariant-loop-column
invariant-loop-column l = record {
  written : AreWritten (λ c z. z ≡ (l.multiplier *ℤ number_at l.fn.numbers c)) (pos 0) l.fn.numbers l.column l.numbers;
  passed : (c : ℕ) → l.count ≤ c → c < l.column → number_at l.fn.numbers c ≡ pos 0;
}

-- the columns that are left
abbrev pub decreases-loop-column : goal.decreases-loop-column
decreases-loop-column l = length l.fn.numbers - l.column
