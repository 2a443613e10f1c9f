-- The file was read, and then what it says of the area.
use Rattle.std.proofs.Common.{◌≡◌, ◌∙◌, List, ℕ, subst, Ok}
use Rattle.std.specs.Prelude.{MatchResult}
use Rattle.std.proofs.lemmas.Result.{err_from_is_err_and}
use Rattle.lsa_bytes.specs.declared.Lsa.{Lsa}
use Rattle.input_files.specs.Outcomes.{file_read}
use Rattle.input_files.specs.Readings.{Reading, or_refused, place_refused}
use Rattle.input_files.proofs.Parsed.{gave_parsed, places_parsed}
use Rattle.input_files.proofs.Stops.{gave_stop}
use Rattle.live_reader.specs.FaultNumbers.{live_fault_number}
use Rattle.live_reader.specs.LiveFiles.{LiveComesTo, RefusesLive}
use Rattle.live_input.specs.LsaFiles.{longest_database}
use Rattle.live_input.specs.LiveReadings.{live_in}
use Rattle.live_input.proofs.LiveReadings.{live_told}
use Rattle.live_input.proofs.live.read_live_file.Goals as goal

-- what the bytes of a live file say of an area
abbrev said_by : List ℕ → ℕ → List ℕ → Reading (List Lsa)
said_by name area bytes = or_refused (place_refused live_fault_number name) (live_in area bytes)

pub returns-in_err-bytes : goal.returns-in_err-bytes
returns-in_err-bytes g c =
    let name = c.args.name.now in
    let p = err_from_is_err_and c.from_residual.result c.from_residual.ensures.1 in
    rw (p.1, p.2) (gave_stop (g.S.Shelf.gave c.args.shelf.now c.read_file.new.shelf) (file_read longest_database name)
    (said_by name c.args.area) _ c.in_err-bytes.ensures.read)

pub returns : goal.returns
returns g c =
    let area = c.args.area in
    gave_parsed (g.S.Shelf.gave c.args.shelf.now c.read_file.new.shelf) longest_database c.args.name (said_by c.args.name.now area)
    live_fault_number (λ (made : List Lsa) said. made ≡ said) c.in_ok-bytes.bytes c.read_live.result c.said_or_stop.result
    c.in_ok-bytes.ensures.read c.said_or_stop.ensures
    (λ read same. places_parsed live_fault_number c.args.name (live_in area read) c.read_live.result
    (live_told area read c.read_live.result
    (subst (λ (bs : List ℕ). MatchResult c.read_live.result (λ lsas. LiveComesTo area bs (Ok lsas)) (RefusesLive area bs)) (c.deref.ensures.value ∙ same)
    c.read_live.ensures)))
