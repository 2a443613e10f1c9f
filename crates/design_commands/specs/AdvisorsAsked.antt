-- Of what the advisors are asked, by what files say and by what is printed.
use Rattle.std.specs.Prelude.{◌≡◌, ℕ, List, Result, Ok, Err}
use Rattle.design_problem.specs.Answers.{AnswerParts}
use Rattle.design_problem.specs.Text.{text}
use Rattle.evidence_text.specs.AnswerValues.{IsAnswerValue}
use Rattle.input_files.specs.declared.stop.Stop.{Stop}
use Rattle.input_files.specs.Readings.{End, Says, Faulty, Failed}
use Rattle.report_writer.specs.declared.report.Report.{Report}
use Rattle.report_writer.specs.Reports.{bytes_in}

-- how the advisors were asked, by how the reading of files ended: as the first tells of what they say, and as the
-- second tells where a file has a fault or failed
abbrev pub AsksAt : {A : Type 0} → (A → Type 0) → Type 0 → End A → Type 0
AsksAt asks nobody (Says said) = asks said
AsksAt asks nobody (Faulty fault) = nobody
AsksAt asks nobody (Failed file) = nobody

-- the bytes are the text of an answer of `design` for which the advisors were asked as `Asks` tells
abbrev pub TellsAnswer : (AnswerParts → Type 0) → List ℕ → Type 0
TellsAnswer Asks bytes = (a : AnswerParts) × IsAnswerValue a × (bytes ≡ text a) × Asks a

-- the bytes are those of the report that a command made; where files stopped the command they are any
abbrev pub IsMadeText : Result Report Stop → List ℕ → Type 0
IsMadeText (Ok report) bytes = bytes ≡ bytes_in report.text
IsMadeText (Err stop) bytes = Unit {0}
