use Rattle.std.proofs.Common.{length, vec_len}
use Rattle.form_search.specs.NextEntries.{IsWatch}
use Rattle.form_search.proofs.watch.Watch.look_back.Given as goal

abbrev pub invariant-loop-last : goal.invariant-loop-last
invariant-loop-last l = IsWatch (length l.costs.low) l.self

abbrev pub decreases-loop-last : goal.decreases-loop-last
decreases-loop-last l = vec_len l.self.changed
