use Rattle.std.proofs.Common.{length}
use Rattle.form_search.specs.NextEntries.{IsWatch}
use Rattle.form_search.proofs.watch.Watch.look.Given as goal

abbrev pub invariant-loop-place : goal.invariant-loop-place
invariant-loop-place l = IsWatch (length l.costs.low) l.self
