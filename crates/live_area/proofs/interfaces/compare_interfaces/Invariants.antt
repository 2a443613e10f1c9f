use Rattle.std.proofs.Common.{◌≡◌, ◌++◌, List, drop}
use Rattle.live_area.specs.declared.links.LiveLink.{LiveLink}
use Rattle.live_area.specs.Differences.{compared_from}
use Rattle.live_area.specs.Indexes.{HasLinkMetrics}
use Rattle.live_area.proofs.interfaces.compare_interfaces.Given as goal

-- with those of the ends that are left they are all
abbrev pub invariant-loop-link : goal.invariant-loop-link
invariant-loop-link l = (all : List LiveLink) → HasLinkMetrics l.metrics.by_name l.of.ends.now all →
    l.interfaces.items ++ compared_from l.lsas all l.of.links.now l.of.costs.now l.link (drop l.link l.of.ends.now)
    ≡ compared_from l.lsas all l.of.links.now l.of.costs.now 0 l.of.ends.now
