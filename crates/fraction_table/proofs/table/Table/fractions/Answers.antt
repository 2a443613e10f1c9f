-- One more column gives its multiplier.
use Rattle.std.proofs.Common.{◌∙◌, ap, length, suc, List, arith}
use Rattle.whole_numbers.specs.Fractions.{Fraction}
use Rattle.design_problem.specs.Basis.{entry}
use Rattle.fraction_table.specs.Pivots.{line_at, member_at}
use Rattle.fraction_table.proofs.MultiplierColumns.{fractions_next}
use Rattle.fraction_table.proofs.Pivots.{line_long, line_read, member_in}
use Rattle.fraction_table.proofs.table.Table.fractions.Goals as goal

pub member_at-requires-clause-line : goal.member_at-requires-clause-line
member_at-requires-clause-line c = member_in c.args.self.now c.requires.tableau c.args.line c.requires.line

pub entry-entry-requires : goal.entry-entry-requires
entry-entry-requires c =
    let t = c.args.self.now in
    let row_is = line_read t c.args.line c.index.result.now c.index.ensures c.requires.line in
    omega (arith, ap length row_is, line_long t c.requires.tableau c.args.line c.requires.line, c.loop-column-test.true, c.requires.tableau.unboxed.count)

pub loop-column-preserved : goal.loop-column-preserved
loop-column-preserved c =
    let t = c.args.self.now in
    let row_is = line_read t c.args.line c.index.result.now c.index.ensures c.requires.line in
    fractions_next t.basis.items (member_at t c.args.line) (line_at t c.args.line) c.loop-column.column
    (length t.costs.low) c.index-in-loop-column.result.now c.entry-entry.result c.loop-column.parts.items
    c.put_negated.new.parts.items
    (omega (arith, c.loop-column-test.true)) (omega (arith, c.loop-column-test.true, c.requires.tableau.unboxed.count))
    (line_long t c.requires.tableau c.args.line c.requires.line)
    c.loop-column.invariant c.index-in-loop-column.ensures
    (c.entry-entry.ensures ∙ ap (λ (row : List Fraction). entry row (suc c.loop-column.column)) row_is)
    c.in_ok-put_negated.ensures
