use Rattle.lsdb_build.specs.Topology.{is_second_of_router}
use Rattle.lsdb_build.specs.Tallies.{same_member, member_of}
use Rattle.lsdb_build.proofs.Tallies.{IsWalked}
use Rattle.lsdb_build.proofs.checks.refuse_second_of_router.Given as goal

abbrev pub invariant-loop-port : goal.invariant-loop-port
invariant-loop-port l = IsWalked same_member member_of is_second_of_router l.seen.counts l.ports l.port-index
