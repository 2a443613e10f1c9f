-- What stands first is as it was, and with the rest of the uses each row's sum is the whole one.
use Rattle.std.proofs.Common.{◌≡◌, ℕ, ◌+◌, ◌<◌}
use Rattle.whole_numbers.specs.Lists.{number_at}
use Rattle.integer_pivots.proofs.UseSums.{IsAdded}
use Rattle.integer_pivots.proofs.uses.put_uses.Given as goal

abbrev pub invariant-loop-index : goal.invariant-loop-index
invariant-loop-index l = record {
  before : (v : ℕ) → v < l.first → number_at l.sums v ≡ number_at l.initial.sums v;
  rows : (row : ℕ) → IsAdded l.uses.items l.index l.number (number_at l.initial.sums (l.first + row)) row (number_at l.sums (l.first + row));
}
