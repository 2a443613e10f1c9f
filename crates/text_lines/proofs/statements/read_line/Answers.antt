use Rattle.std.proofs.Common.{sym, refl, ◌∙◌}
use Rattle.std.proofs.lemmas.Result.{err_from_is_err_and}
use Rattle.text_lines.specs.Lines.{words}
use Rattle.text_lines.specs.Statements.{rules_of, said_words}
use Rattle.text_lines.proofs.StatementLaws.{nothing_lawful, nothing_stands, statement_lawful, statement_stands, statement_refused, header_lawful, header_stands, header_refused}
use Rattle.text_lines.proofs.statements.read_line.Goals as goal

pub returns-in_default-clause-lawful : goal.returns-in_default-clause-lawful
returns-in_default-clause-lawful g c = λ start said stands.
    nothing_lawful (rules_of c.args.kind.now (g.R.StatementReader.fault_of start))
    said (said_words (words c.args.line.text.now)) c.in_default.ensures

pub returns-in_default-clause-read : goal.returns-in_default-clause-read
returns-in_default-clause-read g c = λ start said stands.
    nothing_stands (g.R.StatementReader.took start) c.args.reader.now c.args.begun said c.args.line.number
    (said_words (words c.args.line.text.now)) c.in_default.ensures stands

pub returns-then-begun-clause-lawful : goal.returns-then-begun-clause-lawful
returns-then-begun-clause-lawful g c = λ start said stands.
    statement_lawful (rules_of c.args.kind.now (g.R.StatementReader.fault_of start))
    (g.R.StatementReader.took start) c.args.reader.now c.args.begun said c.in-Some.word.now (words c.in-Some.rest.now)
    (said_words (words c.args.line.text.now)) c.in-Some.ensures c.if-begun.true (c.in_ok-take.ensures.lawful start) stands

pub returns-then-begun-clause-read : goal.returns-then-begun-clause-read
returns-then-begun-clause-read g c = λ start said stands.
    statement_stands (g.R.StatementReader.took start) c.args.reader.now c.take.new.self c.args.begun said c.args.line.number
    c.in-Some.word.now (words c.in-Some.rest.now) (said_words (words c.args.line.text.now)) c.in-Some.ensures c.if-begun.true
    (c.in_ok-take.ensures.taken start) stands

pub returns-in_err-take-clause-refused : goal.returns-in_err-take-clause-refused
returns-in_err-take-clause-refused g c =
    let p = err_from_is_err_and c.from_residual.result c.from_residual.ensures.1 in
    rw (p.1, p.2) (λ start said stands.
    statement_refused (rules_of c.args.kind.now (g.R.StatementReader.fault_of start))
    (g.R.StatementReader.took start) c.args.reader.now c.args.begun said c.args.line.number c.in-Some.word.now
    (words c.in-Some.rest.now) (said_words (words c.args.line.text.now)) c.in_err-take.field-0.0 c.in-Some.ensures c.if-begun.true
    (c.in_err-take.ensures.refused start) stands)

pub returns-then-is_header-clause-lawful : goal.returns-then-is_header-clause-lawful
returns-then-is_header-clause-lawful g c = λ start said stands.
    header_lawful (rules_of c.args.kind.now (g.R.StatementReader.fault_of start))
    (g.R.StatementReader.took start) c.args.reader.now c.args.begun said c.in-Some.word.now (words c.in-Some.rest.now)
    (said_words (words c.args.line.text.now)) c.in-Some.ensures c.if-begun.false (sym c.is_header.ensures ∙ c.if-is_header.true) stands

pub returns-then-is_header-clause-read : goal.returns-then-is_header-clause-read
returns-then-is_header-clause-read g c = λ start said stands.
    header_stands (g.R.StatementReader.took start) c.args.reader.now c.args.begun said c.args.line.number c.in-Some.word.now
    (words c.in-Some.rest.now) (said_words (words c.args.line.text.now)) c.in-Some.ensures c.if-begun.false stands

pub returns-else-is_header-clause-refused : goal.returns-else-is_header-clause-refused
returns-else-is_header-clause-refused g c = λ start said stands.
    header_refused (rules_of c.args.kind.now (g.R.StatementReader.fault_of start))
    (g.R.StatementReader.took start) c.args.reader.now c.args.begun said c.args.line.number c.in-Some.word.now
    (words c.in-Some.rest.now) (said_words (words c.args.line.text.now)) c.at.result c.in-Some.ensures c.if-begun.false
    (sym c.is_header.ensures ∙ c.if-is_header.false) (rw c.at.ensures refl) stands
