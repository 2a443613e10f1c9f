-- How the faults of a topology are written.
use Rattle.std.specs.Prelude.{ℕ}
use Rattle.lsdb_build.specs.declared.fault.TopologyFault.{TopologyFault}
use Rattle.lsdb_build.specs.declared.fault.TopologyFault.TheVariants.{NameTwice, AddressTwice, TypeMismatch, CrowdedLink, SameRouterTwice, NoDesignated, OverlapPrefix, TooMany}

-- the number of a fault of a topology
abbrev pub topology_fault_number : TopologyFault → ℕ
topology_fault_number NameTwice = 10
topology_fault_number AddressTwice = 11
topology_fault_number TypeMismatch = 12
topology_fault_number CrowdedLink = 13
topology_fault_number SameRouterTwice = 14
topology_fault_number NoDesignated = 15
topology_fault_number OverlapPrefix = 16
topology_fault_number TooMany = 17
