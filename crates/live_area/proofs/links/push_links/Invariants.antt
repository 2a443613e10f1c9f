use Rattle.std.proofs.Common.{◌≡◌, ◌++◌, drop}
use Rattle.live_area.specs.LiveLinks.{live_links_among}
use Rattle.live_area.proofs.links.push_links.Given as goal

-- with those of the links that are left they are all
abbrev pub invariant-loop-link : goal.invariant-loop-link
invariant-loop-link l = l.found.items ++ live_links_among l.router (drop l.link-index l.links) ≡ l.fn.found.items ++ live_links_among l.fn.router l.fn.links
