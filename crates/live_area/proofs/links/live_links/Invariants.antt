use Rattle.std.proofs.Common.{◌≡◌, take}
use Rattle.std.specs.Prelude.{flat_map}
use Rattle.live_area.specs.LiveLinks.{live_links_of}
use Rattle.live_area.proofs.links.live_links.Given as goal

-- the links of the LSAs before
abbrev pub invariant-loop-lsa : goal.invariant-loop-lsa
invariant-loop-lsa l = l.found.items ≡ flat_map live_links_of (take l.lsa-index l.lsas)
