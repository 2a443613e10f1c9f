-- The sum so far is that of the first values.
use Rattle.std.proofs.Common.{◌≡◌, ◌*◌, ◌^◌, ◌≤◌, take}
use Rattle.least_total.specs.Totals.{total}
use Rattle.least_total.proofs.totals.sum_of.Given as goal

abbrev pub invariant-loop-value : goal.invariant-loop-value
invariant-loop-value l = (l.sum ≡ total (take l.value-index l.point.values)) × (l.sum ≤ 2 ^ 116 * l.value-index)
