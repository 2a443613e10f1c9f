-- How the faults of a live file are written.
use Rattle.std.specs.Prelude.{ℕ}
use Rattle.lsa_bytes.specs.Numbers as lsas
use Rattle.live_reader.specs.declared.fault.LiveFault.{LiveFault}
use Rattle.live_reader.specs.declared.fault.LiveFault.TheVariants.{BadJson, BadLive, Lsas}

-- the number of a fault of a live file
abbrev pub live_fault_number : LiveFault → ℕ
live_fault_number BadJson = 81
live_fault_number BadLive = 82
live_fault_number (Lsas fault) = lsas.lsa_fault_number fault
