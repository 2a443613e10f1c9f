use Rattle.std.proofs.Common.{◌≡◌, ℕ, ◌<◌, get_or}
use Rattle.least_bound.proofs.floor.floor_of.Given as goal

-- none of the bounds so far is the greatest
abbrev pub invariant-loop-var : goal.invariant-loop-var
invariant-loop-var l = (k : ℕ) → k < l.var → get_or l.low k 0 ≡ l.greatest → ⊥
