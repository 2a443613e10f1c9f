-- How the faults of a text whose costs can't be taken are written.
use Rattle.std.specs.Prelude.{ℕ}
use Rattle.sections_reader.specs.declared.fault.CostsFault.{CostsFault}
use Rattle.sections_reader.specs.declared.fault.CostsFault.TheVariants.{NoCosts, NoInterface, LineTwice}

-- the number of a fault of a text whose costs can't be taken
abbrev pub costs_fault_number : CostsFault → ℕ
costs_fault_number NoCosts = 49
costs_fault_number NoInterface = 50
costs_fault_number LineTwice = 54
