use Rattle.std.proofs.Common.{nat_eq}
use Rattle.lsdb_build.specs.Topology.{is_second_of_address}
use Rattle.lsdb_build.specs.Tallies.{port_address}
use Rattle.lsdb_build.proofs.Tallies.{IsWalked}
use Rattle.lsdb_build.proofs.checks.refuse_second_of_address.Given as goal

abbrev pub invariant-loop-port : goal.invariant-loop-port
invariant-loop-port l = IsWalked nat_eq port_address is_second_of_address l.seen.counts l.ports l.port-index
