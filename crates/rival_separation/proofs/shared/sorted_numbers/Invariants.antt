use Rattle.std.proofs.Common.{◌<◌, ℕ, All, Contains}
use Rattle.rival_separation.proofs.shared.sorted_numbers.Given as goal

abbrev pub invariant-loop-number : goal.invariant-loop-number
invariant-loop-number g l = record {
  known : All (λ k. k < l.count) l.order.items;
  each : (k : ℕ) → k < l.number → Contains l.order.items k;
}
