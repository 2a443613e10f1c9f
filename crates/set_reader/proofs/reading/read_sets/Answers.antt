use Rattle.std.proofs.lemmas.Result.{err_from_is_err_and}
use Rattle.text_lines.specs.Lines.{lines}
use Rattle.text_lines.specs.Statements.{statements}
use Rattle.set_reader.proofs.FileLaws.{begins, read_made, read_lawful, read_refused}
use Rattle.set_reader.proofs.reading.read_sets.Goals as goal

pub read_statements-requires-clause-none : goal.read_statements-requires-clause-none
read_statements-requires-clause-none c = begins c.args.problem.now c.in_ok-reader.reader c.in_ok-reader.ensures

pub returns-in_err-read_statements-clause-refused : goal.returns-in_err-read_statements-clause-refused
returns-in_err-read_statements-clause-refused c =
    let p = err_from_is_err_and c.from_residual-in_err-read_statements.result c.from_residual-in_err-read_statements.ensures.1 in
    rw (p.1, p.2)
    (read_refused c.args.problem.now c.args.bytes.now c.in_ok-reader.reader c.in_err-read_statements.field-0.0 c.in_ok-reader.ensures
    c.in_err-read_statements.ensures.refused)

pub returns-clause-made : goal.returns-clause-made
returns-clause-made c =
    read_made c.args.problem.now c.args.bytes.now c.in_ok-reader.reader c.read_statements.new.reader c.into_sets.result c.in_ok-reader.ensures
    c.in_ok-read_statements.ensures.lawful c.in_ok-read_statements.ensures.taken c.into_sets.ensures.same

pub returns-clause-lawful : goal.returns-clause-lawful
returns-clause-lawful c =
    read_lawful c.args.problem.now c.in_ok-reader.reader c.read_statements.new.reader (statements (lines c.args.bytes.now)) c.into_sets.result
    c.in_ok-reader.ensures c.in_ok-read_statements.ensures.taken c.into_sets.ensures.lawful
