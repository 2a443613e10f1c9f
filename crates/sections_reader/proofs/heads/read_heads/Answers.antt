use Rattle.std.proofs.lemmas.Result.{MatchResult-weaker}
use Rattle.evidence_reader.proofs.NextPlaces.{go-then, stop-then}
use Rattle.sections_reader.proofs.heads.read_heads.Goals as goal

pub returns-in-Total : goal.returns-in-Total
returns-in-Total c =
    let first = rw c.in-Total.is at c.in_ok-behind.ensures in
    rw c.in-Total.is
    (MatchResult-weaker c.answer_head.result c.answer_head.ensures.inner (λ rest goes. go-then first goes) (λ stop h. stop-then stop first h))
