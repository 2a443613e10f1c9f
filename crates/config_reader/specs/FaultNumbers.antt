-- How the faults of a configuration are written.
use Rattle.std.specs.Prelude.{ℕ}
use Rattle.config_reader.specs.declared.fault.ConfigFault.{ConfigFault}
use Rattle.config_reader.specs.declared.fault.ConfigFault.TheVariants.{LongLine, BadAddress, BadNumber, BadArea, Unsupported, SecondAddress, AreaTwice, BadName}

-- the number of a fault of a configuration
abbrev pub config_fault_number : ConfigFault → ℕ
config_fault_number LongLine = 1
config_fault_number BadAddress = 2
config_fault_number BadNumber = 3
config_fault_number BadArea = 4
config_fault_number Unsupported = 5
config_fault_number SecondAddress = 6
config_fault_number AreaTwice = 7
config_fault_number BadName = 8
