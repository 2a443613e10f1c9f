use Rattle.std.proofs.Common.{◌≡◌, ◌+◌, ◌≤◌, drop}
use Rattle.least_change.specs.Present.{change_count}
use Rattle.least_change.proofs.counting.change_count.Given as goal

abbrev pub invariant-loop-var : goal.invariant-loop-var
invariant-loop-var l = record {
  left : l.count + change_count (drop l.var l.present) (drop l.var l.costs) ≡ change_count l.present l.costs;
  few : l.count ≤ l.var;
}
