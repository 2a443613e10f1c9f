-- The places before the counter are done.
use Rattle.std.proofs.Common.{◌≡◌, ℕ, ◌-◌, ◌<◌, pos, length}
use Rattle.whole_numbers.specs.Lists.{number_at}
use Rattle.integer_pivots.proofs.multiples.clear.Given as goal

abbrev pub invariant-loop-place : goal.invariant-loop-place
invariant-loop-place l = record {
  count : length l.line ≡ length l.fn.line;
  zeros : (place : ℕ) → place < l.place → number_at l.line place ≡ pos 0;
}

-- the places that are left
abbrev pub decreases-loop-place : goal.decreases-loop-place
decreases-loop-place l = length l.fn.line - l.place
