use Rattle.std.proofs.Common.{suc, refl}
use Rattle.answer_lines.specs.Grammar.{AtRow}
use Rattle.answer_lines.proofs.FirstLines.{lacks-short, lacks-first, read-one}
use Rattle.evidence_reader.proofs.stage_rows.row_next.Goals as goal

pub returns-in_default : goal.returns-in_default
returns-in_default c = λ left. lacks-short (AtRow (suc left)) c.args.text.left.now (λ line short. short) c.in_default.ensures

pub returns-in_default-2 : goal.returns-in_default-2
returns-in_default-2 c =
    let none = rw c.in_default-2.is at c.in_ok-row.ensures in
    λ left.
    lacks-first (AtRow (suc left)) c.args.text.left.now c.in-Some.line.now c.in-Some.rest.left.now c.in-Some.ensures.0 (λ next is. none is.row is.bounds is.is)

pub returns : goal.returns
returns c =
    let found = rw c.in-Some-2.is at c.in_ok-row.ensures in
    λ left.
    read-one (AtRow (suc left)) (AtRow left) c.args.text.read c.in-Some.rest.read c.args.text.left.now _
    c.in-Some.rest.left.now (rw found.1 at c.in-Some.ensures.0)
    (record { row = c.in-Some-2.row; bounds = found.0; is = refl; leads = refl }) c.in-Some.ensures.1
