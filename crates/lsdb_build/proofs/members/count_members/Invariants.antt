use Rattle.std.proofs.Common.{take, reverse, map}
use Rattle.lsdb_build.specs.Tallies.{IsTally, same_subnet, subnet_of}
use Rattle.lsdb_build.proofs.members.count_members.Given as goal

abbrev pub invariant-loop-port : goal.invariant-loop-port
invariant-loop-port l = IsTally same_subnet l.members.counts (map subnet_of (reverse (take l.port-index l.ports)))
