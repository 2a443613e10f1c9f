-- The numbers of the statuses, as a run ends with them.
use Rattle.std.specs.Prelude.{ℕ}
use Rattle.cost_base.specs.declared.Status.{Status}
use Rattle.cost_base.specs.declared.Status.TheVariants.{Done, Impossible, Undecided, InputRefused, ReadFault, WriteFault, OutOfMemory, WordsRefused, EvidenceRefused}

-- 0 is a full answer, 1 and 2 are answers too, and 3 to 8 are refusals and faults
abbrev pub status_number : Status → ℕ
status_number Done = 0
status_number Impossible = 1
status_number Undecided = 2
status_number InputRefused = 3
status_number ReadFault = 4
status_number WriteFault = 5
status_number OutOfMemory = 6
status_number WordsRefused = 7
status_number EvidenceRefused = 8
