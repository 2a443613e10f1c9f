-- What stops a file stops the request file.
use Rattle.std.proofs.Common.{◌≡◌, ◌∙◌, List, ℕ, subst, None}
use Rattle.std.specs.Prelude.{IfOk, IfErr}
use Rattle.std.proofs.lemmas.Result.{err_from_is_err_and}
use Rattle.text_lines.specs.LineFaults.{TellsFault}
use Rattle.request_reader.specs.Asked.{Asked}
use Rattle.request_reader.specs.FaultNumbers.{request_fault_number}
use Rattle.request_reader.specs.Reading.{request_fault, asked_by}
use Rattle.input_files.specs.Readings.{Reading, unless_refused, line_refused}
use Rattle.input_files.specs.Outcomes.{file_read, longest_file}
use Rattle.input_files.proofs.Parsed.{gave_parsed, lines_parsed}
use Rattle.input_files.proofs.Problems.{IsAsked}
use Rattle.input_files.proofs.Stops.{gave_stop}
use Rattle.input_files.proofs.reading.read_request.Goals as goal

-- what the bytes of a request file say
abbrev said_by : List ℕ → List ℕ → Reading Asked
said_by name bytes = unless_refused (line_refused request_fault_number name) (asked_by bytes) (request_fault bytes)

pub returns-in_err-bytes : goal.returns-in_err-bytes
returns-in_err-bytes g c =
    let name = c.args.name.now in
    let p = err_from_is_err_and c.from_residual.result c.from_residual.ensures.1 in
    rw (p.1, p.2) (gave_stop (g.S.Shelf.gave c.args.shelf.now c.read_file.new.shelf) (file_read longest_file name)
    (said_by name) _ c.in_err-bytes.ensures.read)

pub returns : goal.returns
returns g c =
    gave_parsed (g.S.Shelf.gave c.args.shelf.now c.read_file.new.shelf) longest_file c.args.name (said_by c.args.name.now)
    request_fault_number IsAsked c.in_ok-bytes.bytes c.read_request_file.result c.said_or_stop.result c.in_ok-bytes.ensures.read
    c.said_or_stop.ensures
    (λ read same.
    (let here = c.deref.ensures.value ∙ same in
    lines_parsed request_fault_number c.args.name (asked_by read) (request_fault read) IsAsked c.read_request_file.result
    (subst (λ (bs : List ℕ). IfOk c.read_request_file.result (λ r. (request_fault bs ≡ None) × (r ≡ asked_by bs))) here c.read_request_file.ensures.made)
    (subst (λ (bs : List ℕ). IfErr c.read_request_file.result (TellsFault (request_fault bs))) here c.read_request_file.ensures.refused)))
