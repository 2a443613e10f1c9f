-- How the faults of a request file are written.
use Rattle.std.specs.Prelude.{ℕ}
use Rattle.request_reader.specs.declared.fault.RequestFault.{RequestFault}
use Rattle.request_reader.specs.declared.fault.RequestFault.TheVariants.{BadRequestLine, BadBounds, TooManyPaths}

-- the number of a fault of a request file
abbrev pub request_fault_number : RequestFault → ℕ
request_fault_number BadRequestLine = 20
request_fault_number BadBounds = 25
request_fault_number TooManyPaths = 27
