-- The file was read, and then its LSAs.
use Rattle.std.proofs.Common.{◌≡◌, ◌∙◌, List, ℕ, subst, Ok}
use Rattle.std.specs.Prelude.{MatchResult}
use Rattle.std.proofs.lemmas.Result.{err_from_is_err_and}
use Rattle.lsa_bytes.specs.declared.Lsa.{Lsa}
use Rattle.input_files.specs.Outcomes.{file_read}
use Rattle.input_files.specs.Readings.{Reading, or_refused, place_refused}
use Rattle.input_files.proofs.Parsed.{gave_parsed, places_parsed}
use Rattle.input_files.proofs.Stops.{gave_stop}
use Rattle.lsa_bytes.specs.Files.{ComesTo, Refuses}
use Rattle.lsa_bytes.specs.Numbers.{lsa_fault_number}
use Rattle.live_input.specs.LsaFiles.{longest_database, lsas_in}
use Rattle.live_input.proofs.LsaFiles.{lsas_told}
use Rattle.live_input.proofs.lsas.read_database.Goals as goal

-- what the bytes of a file of LSAs say
abbrev said_by : List ℕ → List ℕ → Reading (List Lsa)
said_by name bytes = or_refused (place_refused lsa_fault_number name) (lsas_in bytes)

pub returns-in_err-bytes : goal.returns-in_err-bytes
returns-in_err-bytes g c =
    let name = c.args.name.now in
    let p = err_from_is_err_and c.from_residual.result c.from_residual.ensures.1 in
    rw (p.1, p.2) (gave_stop (g.S.Shelf.gave c.args.shelf.now c.read_file.new.shelf) (file_read longest_database name)
    (said_by name) _ c.in_err-bytes.ensures.read)

pub returns : goal.returns
returns g c =
    gave_parsed (g.S.Shelf.gave c.args.shelf.now c.read_file.new.shelf) longest_database c.args.name (said_by c.args.name.now)
    lsa_fault_number (λ (made : List Lsa) said. made ≡ said) c.in_ok-bytes.bytes c.read_lsas.result c.said_or_stop.result
    c.in_ok-bytes.ensures.read c.said_or_stop.ensures
    (λ read same. places_parsed lsa_fault_number c.args.name (lsas_in read) c.read_lsas.result
    (lsas_told read c.read_lsas.result
    (subst (λ (bs : List ℕ). MatchResult c.read_lsas.result (λ lsas. ComesTo bs (Ok lsas)) (Refuses bs)) (c.deref.ensures.value ∙ same) c.read_lsas.ensures)))
