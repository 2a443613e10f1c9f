use Rattle.std.proofs.Common.{ℕ}
use Rattle.form_search.specs.NextEntries.{IsWatch}
use Rattle.form_search.proofs.watch.Watch.learn.Given as goal

abbrev pub invariant-loop-row : goal.invariant-loop-row
invariant-loop-row l = (n : ℕ) → IsWatch n l.initial.self → IsWatch n l.self
