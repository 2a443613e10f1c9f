use Rattle.std.proofs.Common.{ℕ}
use Rattle.form_search.specs.NextEntries.{IsWatch}
use Rattle.form_search.proofs.watch.Watch.learn_form.Given as goal

abbrev pub invariant-loop-term : goal.invariant-loop-term
invariant-loop-term l = (n : ℕ) → IsWatch n l.initial.self → IsWatch n l.self
