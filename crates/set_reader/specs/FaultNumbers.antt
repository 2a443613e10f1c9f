-- How the faults of a file of sets are written.
use Rattle.std.specs.Prelude.{ℕ}
use Rattle.set_reader.specs.declared.fault.SetFault.{SetFault}
use Rattle.set_reader.specs.declared.fault.SetFault.TheVariants.{BadSetLine, WrongSet}

-- the number of a fault of a file of sets
abbrev pub set_fault_number : SetFault → ℕ
set_fault_number BadSetLine = 71
set_fault_number WrongSet = 72
