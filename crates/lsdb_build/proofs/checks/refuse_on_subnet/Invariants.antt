use Rattle.lsdb_build.specs.SubnetChecks.{fails}
use Rattle.lsdb_build.specs.Tallies.{same_trait, kind_on}
use Rattle.lsdb_build.proofs.Tallies.{IsWalked}
use Rattle.lsdb_build.proofs.checks.refuse_on_subnet.Given as goal

abbrev pub invariant-loop-port : goal.invariant-loop-port
invariant-loop-port l = IsWalked same_trait kind_on (fails l.check) l.seen.counts l.ports l.port-index
