use Rattle.std.proofs.Common.{rules, refl, ap, ◌∙◌}
use Rattle.std.proofs.lemmas.Result.{err_from_is_err_and}
use Rattle.text_lines.specs.Statements.{rules_of}
use Rattle.text_lines.specs.TextLeft.{TextLeft}
use Rattle.text_lines.proofs.StatementLaws.{read_begin, read_more, read_refused, read_long, read_well, read_headless}
use Rattle.text_lines.proofs.statements.read_statements.Goals as goal

pub loop-line-init : goal.loop-line-init
loop-line-init g c =
    read_begin (g.R.StatementReader.took c.args.reader.now)
    (rules_of c.args.kind.now (g.R.StatementReader.fault_of c.args.reader.now))
    c.args.bytes.now c.new-lines.result c.args.reader.now c.new-lines.ensures c.requires.none

pub loop-line-preserved : goal.loop-line-preserved
loop-line-preserved g c =
    let start = c.args.reader.now in
    read_more (g.R.StatementReader.took start)
    (rules_of c.args.kind.now (g.R.StatementReader.fault_of start))
    c.args.bytes.now c.loop-line.lines c.next_line.new.self c.loop-line.reader c.read_line.new.reader c.loop-line.begun
    c.in_ok-begun-in-Ok.begun c.in-Ok.line c.loop-line.invariant (rw c.in-Ok.is at c.in-Some.ensures.line)
    (c.in_ok-begun-in-Ok.ensures.lawful start) (c.in_ok-begun-in-Ok.ensures.read start)

pub returns-in_err-begun-in-Ok-clause-refused : goal.returns-in_err-begun-in-Ok-clause-refused
returns-in_err-begun-in-Ok-clause-refused g c =
    let start = c.args.reader.now in
    let p = err_from_is_err_and c.from_residual.result c.from_residual.ensures.1 in
    rw (p.1, p.2)
    (read_refused (g.R.StatementReader.took start)
    (rules_of c.args.kind.now (g.R.StatementReader.fault_of start))
    c.args.bytes.now c.loop-line.lines c.next_line.new.self c.loop-line.reader c.loop-line.begun c.in-Ok.line
    c.in_err-begun-in-Ok.field-0.0 c.loop-line.invariant (rw c.in-Ok.is at c.in-Some.ensures.line)
    (c.in_err-begun-in-Ok.ensures.refused start))

pub returns-in-Err-clause-refused : goal.returns-in-Err-clause-refused
returns-in-Err-clause-refused g c =
    let start = c.args.reader.now in
    read_long (g.R.StatementReader.took start)
    (rules_of c.args.kind.now (g.R.StatementReader.fault_of start))
    c.args.bytes.now c.loop-line.lines c.next_line.new.self c.loop-line.reader c.loop-line.begun c.in-Err.long
    c.at.result c.loop-line.invariant (rw c.in-Err.is at c.in-Some.ensures.line) (rw c.at.ensures refl)

pub returns-then-begun-clause-lawful : goal.returns-then-begun-clause-lawful
returns-then-begun-clause-lawful g c =
    let start = c.args.reader.now in
    (read_well (g.R.StatementReader.took start)
    (rules_of c.args.kind.now (g.R.StatementReader.fault_of start))
    c.args.bytes.now c.loop-line.lines c.loop-line.reader c.loop-line.begun c.loop-line.invariant (search rules) c.if-begun.true).lawful

pub returns-then-begun-clause-taken : goal.returns-then-begun-clause-taken
returns-then-begun-clause-taken g c =
    let start = c.args.reader.now in
    (read_well (g.R.StatementReader.took start)
    (rules_of c.args.kind.now (g.R.StatementReader.fault_of start))
    c.args.bytes.now c.loop-line.lines c.loop-line.reader c.loop-line.begun c.loop-line.invariant (search rules) c.if-begun.true).taken

pub returns-then-begun-clause-count : goal.returns-then-begun-clause-count
returns-then-begun-clause-count g c =
    let start = c.args.reader.now in
    c.lines_read.ensures.count ∙ ap (λ (t : TextLeft). t.read) c.in_default.ensures.stays
    ∙ (read_well (g.R.StatementReader.took start)
    (rules_of c.args.kind.now (g.R.StatementReader.fault_of start))
    c.args.bytes.now c.loop-line.lines c.loop-line.reader c.loop-line.begun c.loop-line.invariant (search rules) c.if-begun.true).count

pub returns-else-begun-clause-refused : goal.returns-else-begun-clause-refused
returns-else-begun-clause-refused g c =
    let start = c.args.reader.now in
    read_headless (g.R.StatementReader.took start)
    (rules_of c.args.kind.now (g.R.StatementReader.fault_of start))
    c.args.bytes.now c.loop-line.lines c.loop-line.reader c.loop-line.begun c.lines_read-else-begun.result c.at-else-begun.result
    c.loop-line.invariant (search rules)
    (c.lines_read-else-begun.ensures.count ∙ ap (λ (t : TextLeft). t.read) c.in_default.ensures.stays) c.if-begun.false (rw c.at-else-begun.ensures refl)
