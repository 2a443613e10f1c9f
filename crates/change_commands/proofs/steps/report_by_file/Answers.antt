-- The text with the costs was read, and its steps were looked for.
use Rattle.std.proofs.Common.{◌≡◌, ℕ, List, Ok, refl, sym, ◌∙◌}
use Rattle.std.specs.Prelude.{Vec}
use Rattle.std.specs.declared.alloc.Global.{Global}
use Rattle.std.proofs.lemmas.Result.{err_from_is_err_and}
use Rattle.input_files.specs.declared.stop.Stop.TheVariants as stops
use Rattle.input_files.specs.Readings.{Ready}
use Rattle.input_files.specs.Outcomes.{Input, file_read, longest_answer}
use Rattle.input_files.proofs.Stops.{gave_made, gave_stop, gave_wanting}
use Rattle.report_writer.specs.declared.report.Report.{Report}
use Rattle.report_writer.specs.Reports.{bytes_in}
use Rattle.change_commands.specs.WantedMoves.{StepsInput}
use Rattle.change_commands.specs.Steps.{MaySteps}
use Rattle.change_commands.proofs.StepRuns.{is_steps_input_of}
use Rattle.change_commands.proofs.steps.report_by_file.Goals as goal

abbrev steps_input : Input → List ℕ → StepsInput
steps_input d bytes = record { input = d; bytes = bytes }

pub returns-in_err-bytes : goal.returns-in_err-bytes
returns-in_err-bytes g c = λ names d is.
    let p = err_from_is_err_and c.from_residual.result c.from_residual.ensures.1 in
    rw (p.1, p.2) (gave_stop (g.S.Shelf.gave c.args.shelf.now c.read_answer_file.new.shelf) (file_read longest_answer c.args.words.answer.now)
    (λ bytes. Ready (steps_input d bytes)) _ c.in_err-bytes.ensures.read)

pub returns-in_err-report_of_text : goal.returns-in_err-report_of_text
returns-in_err-report_of_text g c = λ names d is.
    let gave = g.S.Shelf.gave c.args.shelf.now c.read_answer_file.new.shelf in
    let p = err_from_is_err_and c.from_residual-in_err-report_of_text.result c.from_residual-in_err-report_of_text.ensures.1 in
    rw (p.1, p.2) (gave_stop gave (file_read longest_answer c.args.words.answer.now) (λ bytes. Ready (steps_input d bytes)) stops.OutOfMemory
    (gave_wanting gave (file_read longest_answer c.args.words.answer.now) _ _ c.in_ok-bytes.ensures.read))

pub returns : goal.returns
returns g c = λ names d is.
    gave_made (g.S.Shelf.gave c.args.shelf.now c.read_answer_file.new.shelf) (file_read longest_answer c.args.words.answer.now)
    (λ bytes. Ready (steps_input d bytes)) (λ (bytes : Vec ℕ Global) read. bytes.items ≡ read)
    (λ (report : Report) handed. MaySteps c.args.words.nodes c.args.words.by handed report.status (bytes_in report.text))
    c.in_ok-bytes.bytes (Ok c.in_ok-report_of_text.field-0) c.in_ok-bytes.ensures.read
    (λ read same. record {
      said = steps_input d read;
      ends = refl;
      fits = c.in_ok-report_of_text.ensures (steps_input d read) (is_steps_input_of names c.args.network.now d read is) (sym (c.deref.ensures.value ∙ same));
    })
