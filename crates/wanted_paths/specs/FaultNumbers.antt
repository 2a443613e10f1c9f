-- How the faults of resolution are written.
use Rattle.std.specs.Prelude.{ℕ}
use Rattle.wanted_paths.specs.declared.fault.ResolutionFault.{ResolutionFault}
use Rattle.wanted_paths.specs.declared.fault.ResolutionFault.TheVariants.{UnknownRouter, UnknownInterface, NotALink, BrokenPath, LoopPath, PathExcluded, EndsDiffer, TooManyVariables, NoCost}

-- the number of a fault of requests that don't resolve
abbrev pub resolution_fault_number : ResolutionFault → ℕ
resolution_fault_number (UnknownRouter line) = 21
resolution_fault_number (UnknownInterface line) = 22
resolution_fault_number (BrokenPath line hop) = 23
resolution_fault_number (LoopPath line) = 24
resolution_fault_number (NoCost link) = 26
resolution_fault_number TooManyVariables = 27
resolution_fault_number (NotALink line) = 28
resolution_fault_number (EndsDiffer line) = 29
resolution_fault_number (PathExcluded line) = 70

-- the line of the request file at which a fault stands, 0 where it is none of one line
abbrev pub line_of_fault : ResolutionFault → ℕ
line_of_fault (UnknownRouter line) = line
line_of_fault (UnknownInterface line) = line
line_of_fault (BrokenPath line hop) = line
line_of_fault (LoopPath line) = line
line_of_fault (NoCost link) = 0
line_of_fault TooManyVariables = 0
line_of_fault (NotALink line) = line
line_of_fault (EndsDiffer line) = line
line_of_fault (PathExcluded line) = line
