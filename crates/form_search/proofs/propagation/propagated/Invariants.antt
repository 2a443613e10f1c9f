use Rattle.std.proofs.Common.{length}
use Rattle.std.specs.BinaryHeap.{heap_len}
use Rattle.design_problem.specs.OpenPlaces.{first_place}
use Rattle.form_search.specs.NextEntries.{IsWatch}
use Rattle.form_search.proofs.propagation.propagated.Given as goal

abbrev pub invariant-loop-row : goal.invariant-loop-row
invariant-loop-row l = IsWatch (length (first_place l.tree.places).box.low) l.watch

abbrev pub decreases-loop-row : goal.decreases-loop-row
decreases-loop-row l = heap_len l.watch.waiting
