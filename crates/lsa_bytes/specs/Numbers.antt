-- How the faults of LSAs and of router IDs are written.
use Rattle.std.specs.Prelude.{ℕ}
use Rattle.lsa_bytes.specs.declared.fault.LsaFault.{LsaFault}
use Rattle.lsa_bytes.specs.declared.fault.LsaFault.TheVariants.{ShortLsa, BadLength, BadBody, LsaTwice, ZeroMetric, NoRouterId, RouterIdTwice, TooManyRouters}

-- the number of a fault of LSAs or router IDs
abbrev pub lsa_fault_number : LsaFault → ℕ
lsa_fault_number ShortLsa = 73
lsa_fault_number BadLength = 74
lsa_fault_number BadBody = 75
lsa_fault_number LsaTwice = 76
lsa_fault_number ZeroMetric = 77
lsa_fault_number NoRouterId = 78
lsa_fault_number RouterIdTwice = 79
lsa_fault_number TooManyRouters = 80
