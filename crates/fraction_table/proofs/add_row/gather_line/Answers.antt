-- The sums start with the form's value at the corner, and with 0.
use Rattle.std.proofs.Common.{arith}
use Rattle.fraction_table.proofs.RowFills.{gathered_line, started_line}
use Rattle.fraction_table.proofs.add_row.gather_line.Goals as goal

pub sum_lines-requires-clause-lines : goal.sum_lines-requires-clause-lines
sum_lines-requires-clause-lines c =
    let started = started_line c.args.top c.args.costs.now c.args.row.now.form c.args.row.now.line c.set_constant.new.self
    c.start_at.result c.requires.row.blank c.start_at.ensures.start c.start_at.ensures.number c.set_constant.ensures in
    record {
      fit = rw started.long c.requires.lines.fit;
      many = omega (arith, c.requires.lines.many, c.requires.row.fits.count);
    }

pub sum_lines-requires-clause-scratch : goal.sum_lines-requires-clause-scratch
sum_lines-requires-clause-scratch c =
    let started = started_line c.args.top c.args.costs.now c.args.row.now.form c.args.row.now.line c.set_constant.new.self
    c.start_at.result c.requires.row.blank c.start_at.ensures.start c.start_at.ensures.number c.set_constant.ensures in
    rw started.long c.requires.scratch

pub sum_lines-requires-clause-numbers : goal.sum_lines-requires-clause-numbers
sum_lines-requires-clause-numbers c =
    (started_line c.args.top c.args.costs.now c.args.row.now.form c.args.row.now.line c.set_constant.new.self c.start_at.result
    c.requires.row.blank c.start_at.ensures.start c.start_at.ensures.number c.set_constant.ensures).numbers

pub returns-clause-line : goal.returns-clause-line
returns-clause-line c =
    gathered_line {X = Unit {0}} c.sum_lines.result c.args.top c.args.costs.now c.args.row.now.form c.args.lines.now c.set_constant.new.self c.sum_lines.new.sum
    (started_line c.args.top c.args.costs.now c.args.row.now.form c.args.row.now.line c.set_constant.new.self c.start_at.result
    c.requires.row.blank c.start_at.ensures.start c.start_at.ensures.number c.set_constant.ensures)
    c.sum_lines.ensures.sums c.sum_lines.ensures.numbers c.sum_lines.ensures.width
