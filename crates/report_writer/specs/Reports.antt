-- What a command reports, and how a report is written.
use Rattle.std.specs.Prelude.{◌≡◌, ◌⊎◌, ℕ, List, take, IfOk, Result, Ok, Err}
use Rattle.cost_base.specs.declared.OutOfMemory.{OutOfMemory}
use Rattle.cost_base.specs.declared.Status.{Status}
use Rattle.cost_base.specs.declared.Status.TheVariants as status
use Rattle.cost_base.specs.Outside.{Rose, HasCause}
use Rattle.cost_base.specs.Histories.{Hands}
use Rattle.input_files.specs.declared.stop.Stop.{Stop}
use Rattle.input_files.specs.declared.stop.Stop.TheVariants.{Refused, ReadFault, OutOfMemory as NoMemory}
use Rattle.input_files.specs.Stops.{refusal_in}
use Rattle.report_writer.specs.declared.report.Report.{Report}
use Rattle.report_writer.specs.declared.report.Text.{Text}
use Rattle.report_writer.specs.declared.report.Text.TheVariants.{Made, Fixed, Lsas}
use Rattle.report_writer.specs.Texts.{refused_line, read_fault_line}

-- the bytes of a report's text
abbrev pub bytes_in : Text → List ℕ
bytes_in (Made bytes) = bytes.items
bytes_in (Fixed text) = text.now
bytes_in (Lsas bytes) = bytes.items

-- the report has this status and this text
pub record Reports (aim : Status) (bytes : List ℕ) (report : Report) : Type 0 where
  pub status : report.status ≡ aim
  pub text : bytes_in report.text ≡ bytes

-- the report of what stopped a command, where memory sufficed
abbrev pub ReportsStop : Stop → Result Report OutOfMemory → Type 0
ReportsStop (Refused number file line) made = IfOk made (Reports status.InputRefused (refused_line (refusal_in number file line)))
ReportsStop (ReadFault file) made = IfOk made (Reports status.ReadFault (read_fault_line file.now))
ReportsStop NoMemory made = IfOk made (λ report. ⊥)

-- the report of a command: its own, or that of what stopped it
abbrev pub ReportsAny : Result Report Stop → Result Report OutOfMemory → Type 0
ReportsAny (Ok report) made = made ≡ Ok report
ReportsAny (Err stop) made = ReportsStop stop made

-- the sink was handed the whole text or, where it refused some of it, a prefix; and the refusal has its cause in the
-- sink
pub record IsHanded {T E : Type 0} (handed : List ℕ → Type 0) (count_before count_now : ℕ) (text : List ℕ) (result : Result T E) : Type 0 where
  pub bytes : Hands handed text result
  pub cause : HasCause count_before count_now result

-- A report of this status and text was written, and the run ends with its status; or a prefix of the text was written,
-- the sink's count rose, and the run ends with a fault of writing.
abbrev pub IsWritten : Status → List ℕ → (List ℕ → Type 0) → ℕ → ℕ → Status → Type 0
IsWritten aim text handed count_before count_now end =
    ((end ≡ aim) × handed text) ⊎ ((end ≡ status.WriteFault) × ((n : ℕ) × handed (take n text)) × Rose count_before count_now)
