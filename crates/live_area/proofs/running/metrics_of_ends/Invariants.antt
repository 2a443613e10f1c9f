-- the metrics of the links before
use Rattle.std.proofs.Common.{◌≡◌, map, take}
use Rattle.live_area.specs.LiveCosts.{metric_among}
use Rattle.live_area.proofs.running.metrics_of_ends.Given as goal

abbrev pub invariant-loop-number : goal.invariant-loop-number
invariant-loop-number l = l.metrics.items ≡ map (metric_among l.configs l.found) (take l.number l.links)
