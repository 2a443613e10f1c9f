use Rattle.lsdb_build.specs.Topology.{lacks_designated}
use Rattle.lsdb_build.proofs.FirstPlaces.{IsLeft}
use Rattle.lsdb_build.proofs.checks.refuse_undesignated.Given as goal

abbrev pub invariant-loop-port : goal.invariant-loop-port
invariant-loop-port l = IsLeft (λ before p. lacks_designated l.ports p) l.transit l.port-index
