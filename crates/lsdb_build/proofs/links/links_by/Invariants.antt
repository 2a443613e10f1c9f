use Rattle.std.proofs.Common.{◌≡◌, List, take, map}
use Rattle.lsdb_build.specs.Links.{link_among}
use Rattle.lsdb_build.specs.Neighbours.{Port}
use Rattle.lsdb_build.specs.Places.{ArePlaces}
use Rattle.lsdb_build.proofs.links.links_by.Given as goal

abbrev pub invariant-loop-port : goal.invariant-loop-port
invariant-loop-port l = (transit : List Port) → ArePlaces l.firsts.by_subnet transit →
    l.made.items ≡ map (link_among l.links transit) (take l.port-index l.links)
