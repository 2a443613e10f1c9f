use Rattle.std.proofs.Common.{◌≡◌, ◌+◌, ◌≤◌, drop}
use Rattle.least_change.specs.Present.{unkept_count}
use Rattle.least_change.proofs.counting.unkept_count.Given as goal

abbrev pub invariant-loop-cost : goal.invariant-loop-cost
invariant-loop-cost l = record {
  left : l.count + unkept_count (drop l.cost-index l.present) ≡ unkept_count l.present;
  few : l.count ≤ l.cost-index;
}
