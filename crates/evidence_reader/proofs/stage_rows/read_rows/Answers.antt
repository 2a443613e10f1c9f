use Rattle.std.proofs.lemmas.Result.{MatchResult-weaker}
use Rattle.evidence_reader.proofs.NextPlaces.{stop-then}
use Rattle.evidence_reader.proofs.CountedLines.{rows_behind}
use Rattle.evidence_reader.proofs.stage_rows.read_rows.Goals as goal

pub returns : goal.returns
returns c =
    MatchResult-weaker c.each_row.result c.each_row.ensures (λ r h. rows_behind c.in_ok-count.count r.0.items h.0 c.in_ok-count.ensures h.1)
    (λ stop h. stop-then stop c.in_ok-count.ensures h)
