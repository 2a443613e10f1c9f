-- A fault of resolution stands at its place.
use Rattle.std.proofs.Common.{ℕ, sym, ap, subst}
use Rattle.wanted_paths.specs.FaultNumbers.{resolution_fault_number}
use Rattle.input_files.specs.Outcomes.{FilePlace, resolution_place}
use Rattle.input_files.specs.Readings.{place_refused}
use Rattle.input_files.specs.Stops.{IsRefusal, files_named}
use Rattle.input_files.proofs.Stops.{refusal_by}
use Rattle.input_files.proofs.problem.stop_of_resolution.Goals as goal

pub returns-in-Refused : goal.returns-in-Refused
returns-in-Refused c =
    let fault = c.in-Refused.fault in
    let place = resolution_place (files_named c.args.words) c.args.lsdb.now fault in
    rw c.in-Refused.is
    (subst (λ (line : ℕ). IsRefusal (place_refused resolution_fault_number place.file (fault, line)) c.stop_of.result)
    (sym (ap (λ (p : FilePlace). p.line) c.place_of-line.ensures))
    (refusal_by resolution_fault_number c.at.result fault c.place_of-line.result.1 c.place_of-line.result.0 place.file c.stop_of.result
    c.at.ensures c.stop_of.ensures (sym (ap (λ (p : FilePlace). p.file) c.place_of-line.ensures))))
