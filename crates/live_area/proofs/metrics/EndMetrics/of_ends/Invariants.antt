use Rattle.std.proofs.Common.{take, []}
use Rattle.live_area.specs.Indexes.{HasLinkMetrics}
use Rattle.live_area.proofs.metrics.EndMetrics.of_ends.Given as goal

-- the ends before are there
abbrev pub invariant-loop-end : goal.invariant-loop-end
invariant-loop-end l = HasLinkMetrics l.metrics.by_name (take l.end-index l.ends) []
