-- How the faults of a file as such are written.
use Rattle.std.specs.Prelude.{ℕ}
use Rattle.input_files.specs.declared.stop.FileFault.{FileFault}
use Rattle.input_files.specs.declared.stop.FileFault.TheVariants.{TooLong}

-- the number of a fault of a file as such
abbrev pub file_fault_number : FileFault → ℕ
file_fault_number TooLong = 9
