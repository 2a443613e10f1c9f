-- The file was read, and then its lines.
use Rattle.std.proofs.Common.{◌≡◌, ◌∙◌, List, ℕ, subst}
use Rattle.std.specs.Prelude.{None, IfOk, IfErr}
use Rattle.std.proofs.lemmas.Result.{err_from_is_err_and}
use Rattle.text_lines.specs.LineFaults.{TellsFault}
use Rattle.set_reader.specs.FaultNumbers.{set_fault_number}
use Rattle.set_reader.specs.Reading.{AreSaid, set_fault}
use Rattle.input_files.specs.Outcomes.{file_read}
use Rattle.input_files.proofs.Parsed.{gave_parsed}
use Rattle.input_files.proofs.Stops.{gave_stop}
use Rattle.path_commands.specs.SetFiles.{longest_sets, sets_said}
use Rattle.path_commands.proofs.SpreadRuns.{AreSetsFor, sets_parsed}
use Rattle.path_commands.proofs.sets_file.read_sets_file.Goals as goal

pub returns-in_err-bytes-clause-read : goal.returns-in_err-bytes-clause-read
returns-in_err-bytes-clause-read g c = λ d is.
    let file = c.args.name.now in
    let e = err_from_is_err_and c.from_residual.result c.from_residual.ensures.1 in
    rw (e.1, e.2) (gave_stop (g.S.Shelf.gave c.args.shelf.now c.read_file.new.shelf) (file_read longest_sets file)
    (sets_said file d) _ c.in_err-bytes.ensures.read)

pub returns-clause-read : goal.returns-clause-read
returns-clause-read g c = λ d is.
    gave_parsed (g.S.Shelf.gave c.args.shelf.now c.read_file.new.shelf) longest_sets c.args.name (sets_said c.args.name.now d)
    set_fault_number (AreSetsFor d) c.in_ok-bytes.bytes c.read_sets.result c.said_or_stop.result c.in_ok-bytes.ensures.read
    c.said_or_stop.ensures
    (λ read same.
    (let here = c.deref.ensures.value ∙ same in
    let p = c.args.problem.now in
    sets_parsed c.args.name d p read c.read_sets.result is
    (subst (λ (bs : List ℕ). IfOk c.read_sets.result (λ sets. (set_fault p bs ≡ None) × AreSaid bs sets)) here c.read_sets.ensures.made)
    c.read_sets.ensures.lawful
    (subst (λ (bs : List ℕ). IfErr c.read_sets.result (TellsFault (set_fault p bs))) here c.read_sets.ensures.refused)))
