use Rattle.std.proofs.Common.{sym, ◌∙◌}
use Rattle.std.proofs.lemmas.Bool.{true≢false}
use Rattle.answer_lines.specs.Grammar.{AtSectionsEnd}
use Rattle.answer_lines.proofs.FirstLines.{lacks-first}
use Rattle.sections_reader.proofs.costs.end_next.Goals as goal

pub returns-else-ends_sections : goal.returns-else-ends_sections
returns-else-ends_sections c =
    lacks-first (AtSectionsEnd c.args.of) c.args.text.left.now c.in_ok-line.line.now c.in_ok-line.rest.left.now c.in_ok-line.ensures.0
    (λ next is. true≢false (sym (c.ends_sections.ensures.1 is.0) ∙ c.if-ends_sections.false))
