use Rattle.std.proofs.Common.{sym, ◌∙◌}
use Rattle.std.proofs.lemmas.Bool.{true≢false}
use Rattle.answer_lines.specs.Grammar.{AtOtherVerdict}
use Rattle.answer_lines.proofs.FirstLines.{lacks-first}
use Rattle.sections_reader.proofs.heads.verdict_next.Goals as goal

pub returns-else-is_verdict : goal.returns-else-is_verdict
returns-else-is_verdict c =
    lacks-first (AtOtherVerdict c.args.of) c.args.text.left.now c.in_ok-line.line.now c.in_ok-line.rest.left.now c.in_ok-line.ensures.0
    (λ next is. true≢false (sym (c.is_verdict.ensures.1 is.0) ∙ c.if-is_verdict.false))
