use Rattle.std.proofs.Common.{suc}
use Rattle.answer_lines.specs.Grammar.{AtTree}
use Rattle.answer_lines.proofs.FirstLines.{lacks-first}
use Rattle.evidence_reader.proofs.stage_trees.entry_next.Goals as goal

pub returns-in_default-2 : goal.returns-in_default-2
returns-in_default-2 c =
    let none = rw c.in_default-2.is at c.in_ok-entry.ensures in
    λ part places left.
    lacks-first (AtTree part (suc places) (suc left)) c.args.text.left.now c.in-Some.line.now c.in-Some.rest.left.now
    c.in-Some.ensures.0 (λ next is. none is.entry is.bounds is.fits is.is)
