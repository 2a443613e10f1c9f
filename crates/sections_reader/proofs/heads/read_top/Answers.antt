use Rattle.std.proofs.Common.{ℕ, List, subst}
use Rattle.std.proofs.lemmas.Result.{MatchResult-weaker}
use Rattle.answer_lines.specs.Grammar.{AtOtherHead, AtOtherCosts}
use Rattle.answer_lines.specs.Going.{Goes}
use Rattle.evidence_reader.proofs.NextPlaces.{go-then, stop-then}
use Rattle.sections_reader.proofs.HeadLines.{verdict-behind}
use Rattle.sections_reader.proofs.heads.read_top.Goals as goal

pub returns : goal.returns
returns c =
    let of = c.args.of in
    MatchResult-weaker c.verdict_at.result c.verdict_at.ensures
    (λ rest h. (
      h.0,
      subst (λ (lines : List (List ℕ)). Goes (AtOtherHead of) c.args.text lines (AtOtherCosts of) rest) (verdict-behind of h.0)
          (go-then c.in_ok-behind.ensures h.1),
    ))
    (λ stop h. stop-then stop c.in_ok-behind.ensures h)
