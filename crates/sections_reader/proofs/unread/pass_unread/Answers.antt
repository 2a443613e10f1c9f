use Rattle.std.proofs.Common.{◌++◌}
use Rattle.std.proofs.lemmas.Result.{err_from_is_err_and, MatchResult-weaker}
use Rattle.evidence_reader.proofs.NextPlaces.{go-then, stop-then}
use Rattle.sections_reader.proofs.unread.pass_unread.Goals as goal

pub returns-in_err-inner-in-Total : goal.returns-in_err-inner-in-Total
returns-in_err-inner-in-Total c =
    let p = err_from_is_err_and c.from_residual.result c.from_residual.ensures.1 in
    rw (p.1, p.2, c.in-Total.is) (c.in_err-inner-in-Total.ensures 1)

pub returns-in_ok-inner-in-Total : goal.returns-in_ok-inner-in-Total
returns-in_ok-inner-in-Total c =
    let passed = c.in_ok-inner-in-Total.ensures 1 in
    rw c.in-Total.is
    (MatchResult-weaker c.pass_last.result c.pass_last.ensures
    (λ _ h. (passed.0 ++ h.0, h.1, go-then passed.1 h.2))
    (λ stop h. stop-then stop passed.1 h))
