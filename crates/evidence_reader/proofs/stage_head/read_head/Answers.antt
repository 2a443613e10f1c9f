use Rattle.std.proofs.lemmas.Result.{err_from_is_err_and, MatchResult-weaker}
use Rattle.evidence_reader.proofs.NextPlaces.{stop-then, go-then}
use Rattle.evidence_reader.proofs.stage_head.read_head.Goals as goal

pub returns-in_err-behind : goal.returns-in_err-behind
returns-in_err-behind c =
    let p = err_from_is_err_and c.from_residual.result c.from_residual.ensures.1 in
    rw (p.1, p.2) c.in_err-behind.ensures.own

pub returns : goal.returns
returns c =
    MatchResult-weaker c.verdict_at.result c.verdict_at.ensures (λ r goes. go-then c.in_ok-behind.ensures.own goes)
    (λ stop h. stop-then stop c.in_ok-behind.ensures.own h)
