-- A file that is too long is refused at no line.
use Rattle.std.proofs.Common.{ℕ, ◌∙◌, ap}
use Rattle.cost_base.specs.declared.refusal.Refusal.{Refusal}
use Rattle.input_files.specs.declared.stop.FileFault.{FileFault}
use Rattle.input_files.specs.FaultNumbers.{file_fault_number}
use Rattle.input_files.specs.Stops.{refusal_stop}
use Rattle.input_files.proofs.reading.stop_of_file.Goals as goal

pub returns-in-TooLong : goal.returns-in-TooLong
returns-in-TooLong c =
    rw c.in-TooLong.is (c.stop_of.ensures ∙ ap (λ (r : Refusal FileFault ℕ). refusal_stop file_fault_number r c.args.file) c.at.ensures)
