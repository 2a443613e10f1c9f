-- The places before the counter are done.
use Rattle.std.proofs.Common.{◌≡◌, ◌-◌, length}
use Rattle.integer_pivots.proofs.PartSums.{partly}
use Rattle.integer_pivots.proofs.multiples.put_multiple.Given as goal

abbrev pub invariant-loop-column : goal.invariant-loop-column
invariant-loop-column l = l.sums ≡ partly l.column l.initial.sums l.factor l.numbers

-- the places that are left
abbrev pub decreases-loop-column : goal.decreases-loop-column
decreases-loop-column l = length l.numbers - l.column
