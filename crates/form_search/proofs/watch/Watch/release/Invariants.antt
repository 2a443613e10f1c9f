use Rattle.std.proofs.Common.{ℕ, vec_len}
use Rattle.form_search.specs.NextEntries.{IsWatch}
use Rattle.form_search.proofs.watch.Watch.release.Given as goal

abbrev pub invariant-loop-row : goal.invariant-loop-row
invariant-loop-row l = (n : ℕ) → IsWatch n l.initial.self → IsWatch n l.self

abbrev pub decreases-loop-row : goal.decreases-loop-row
decreases-loop-row l = vec_len l.self.barred
