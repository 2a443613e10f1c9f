use Rattle.std.proofs.Common.{ℕ, ◌<◌, ◌≤◌, slice_index}
use Rattle.decide_cases.proofs.conditions.are_ranges.Given as goal

abbrev pub invariant-loop-place : goal.invariant-loop-place
invariant-loop-place l = (k : ℕ) → k < l.place → (1 ≤ slice_index l.low k) × (slice_index l.low k ≤ slice_index l.high k)
