-- The checks of an interface against those before it on its subnet.
use Rattle.std.specs.Prelude.{List, Bool}
use Rattle.lsdb_build.specs.declared.checks.SubnetCheck.{SubnetCheck}
use Rattle.lsdb_build.specs.declared.checks.SubnetCheck.TheVariants.{Kinds, Ends}
use Rattle.lsdb_build.specs.declared.fault.TopologyFault.{TopologyFault}
use Rattle.lsdb_build.specs.declared.fault.TopologyFault.TheVariants.{TypeMismatch, CrowdedLink}
use Rattle.lsdb_build.specs.Neighbours.{Port}
use Rattle.lsdb_build.specs.Topology.{is_mismatch, is_crowding}

-- the test of an interface against those before it that a check makes
abbrev pub fails : SubnetCheck → List Port → Port → Bool
fails Kinds = is_mismatch
fails Ends = is_crowding

-- the fault that a check finds
abbrev pub fault_of : SubnetCheck → TopologyFault
fault_of Kinds = TypeMismatch
fault_of Ends = CrowdedLink
