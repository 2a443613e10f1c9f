use Rattle.std.proofs.Common.{◌≡◌, ◌++◌, [], take, drop, reverse, map}
use Rattle.lsdb_build.specs.Neighbours.{first_members}
use Rattle.lsdb_build.specs.Tallies.{IsTally, same_subnet, subnet_of}
use Rattle.lsdb_build.proofs.links.first_ports.Given as goal

abbrev pub invariant-loop-port : goal.invariant-loop-port
invariant-loop-port l = record {
  seen : IsTally same_subnet l.seen.counts (map subnet_of (reverse (take l.port-index l.links)));
  left : l.found.items ++ first_members (reverse (take l.port-index l.links)) (drop l.port-index l.links) ≡ first_members [] l.links;
}
