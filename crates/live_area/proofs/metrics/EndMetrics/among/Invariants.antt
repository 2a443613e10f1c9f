use Rattle.std.proofs.Common.{take}
use Rattle.live_area.specs.Indexes.{HasLinkMetrics}
use Rattle.live_area.proofs.metrics.EndMetrics.among.Given as goal

-- the metrics of the links before are there
abbrev pub invariant-loop-link : goal.invariant-loop-link
invariant-loop-link l = HasLinkMetrics l.metrics.by_name l.ends (take l.link-index l.links)
