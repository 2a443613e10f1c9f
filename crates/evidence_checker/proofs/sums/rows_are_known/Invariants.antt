use Rattle.std.proofs.Common.{ℕ, ◌<◌, get_or}
use Rattle.evidence_checker.proofs.sums.rows_are_known.Given as goal

abbrev pub invariant-loop-part : goal.invariant-loop-part
invariant-loop-part l = (k : ℕ) (d : ℕ × ℕ) → k < l.part-index → (get_or l.parts k d).0 < l.count
