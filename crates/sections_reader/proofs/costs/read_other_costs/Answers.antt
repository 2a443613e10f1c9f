use Rattle.std.proofs.lemmas.Result.{err_from_is_err_and}
use Rattle.evidence_reader.proofs.NextPlaces.{stop-then}
use Rattle.sections_reader.proofs.costs.read_other_costs.Goals as goal

pub returns-in_err-rest-in-None : goal.returns-in_err-rest-in-None
returns-in_err-rest-in-None c =
    let p = err_from_is_err_and c.from_residual-in_err-rest-in-None.result c.from_residual-in_err-rest-in-None.ensures.1 in
    rw (p.1, p.2) (stop-then _ (rw c.in-None.is at c.in_ok-number.ensures) c.in_err-rest-in-None.ensures)

pub returns-in_err-lines-in-Some : goal.returns-in_err-lines-in-Some
returns-in_err-lines-in-Some c =
    let p = err_from_is_err_and c.from_residual-in_err-lines-in-Some.result c.from_residual-in_err-lines-in-Some.ensures.1 in
    rw (p.1, p.2) (stop-then _ (rw c.in-Some.is at c.in_ok-number.ensures) c.in_err-lines-in-Some.ensures)
