use Rattle.std.proofs.Common.{◌≡◌, ◌++◌, List, drop}
use Rattle.std.specs.Prelude.{flat_map}
use Rattle.lsa_writer.specs.declared.ends.LinkEnd.{LinkEnd}
use Rattle.live_area.specs.declared.links.LiveLink.{LiveLink}
use Rattle.live_area.specs.Differences.{lsa_lines}
use Rattle.live_area.specs.Indexes.{HasLinkMetrics}
use Rattle.live_area.proofs.routers.push_router_lines.Given as goal

-- with the lines of the LSAs that are left they are all
abbrev pub invariant-loop-lsa : goal.invariant-loop-lsa
invariant-loop-lsa l = (ends : List LinkEnd) (all : List LiveLink) → HasLinkMetrics l.metrics.by_name ends all →
    l.lines.items ++ flat_map (lsa_lines l.configs ends) (drop l.lsa-index l.lsas) ≡ l.fn.lines.items ++ flat_map (lsa_lines l.fn.configs ends) l.fn.lsas
