use Rattle.std.proofs.Common.{◌≡◌, ◌++◌, List, [], drop, take}
use Rattle.lsa_writer.specs.declared.ends.LinkEnd.{LinkEnd}
use Rattle.live_area.specs.declared.links.LiveLink.{LiveLink}
use Rattle.live_area.specs.Differences.{unknown_lines}
use Rattle.live_area.specs.Indexes.{HasLinkMetrics, HaveAddresses}
use Rattle.live_area.proofs.routers.push_unknown_lines.Given as goal

-- the data of the links before were seen, and with the lines of the links that are left they are all
abbrev pub invariant-loop-link : goal.invariant-loop-link
invariant-loop-link l = record {
  seen : HaveAddresses l.seen (take l.link-index l.links);
  lines : (ends : List LinkEnd) (all : List LiveLink) → HasLinkMetrics l.metrics.by_name ends all →
      l.lines.items ++ unknown_lines ends (take l.link-index l.links) (drop l.link-index l.links) ≡ l.fn.lines.items ++ unknown_lines ends [] l.fn.links;
}
