-- The table is whole with the row and its line; a step that stopped the line is too wide.
use Rattle.std.proofs.Common.{suc, ◌∙◌, ap, sym, subst, [], ◌∷◌, ◌++◌, length, arith}
use Rattle.design_problem.specs.declared.form.Form.{Form}
use Rattle.fraction_lines.specs.Turns.{AreTableLines}
use Rattle.fraction_table.proofs.Bases.{table_long}
use Rattle.fraction_table.proofs.Pivots.{whole_rows}
use Rattle.fraction_table.proofs.RowLines.{put_whole, put_wide}
use Rattle.fraction_table.proofs.table.Table.put_row.Goals as goal

pub fill_line-filled-requires-clause-lines : goal.fill_line-filled-requires-clause-lines
fill_line-filled-requires-clause-lines c =
    let t = c.args.self.now in
    record {
      fit = subst (AreTableLines t.top (suc (length t.costs.low))) (sym c.as_slice-lines.ensures.value) (whole_rows t c.requires.tableau);
      many = omega (
        arith,
        ap length c.as_slice-lines.ensures.value,
        table_long t.top t.costs t.rows.items t.basis.items t.lines.items c.requires.tableau,
      );
    }

pub returns-clause-tableau : goal.returns-clause-tableau
returns-clause-tableau c =
    let t = c.args.self.now in
    put_whole {X = Unit {0}} c.fill_line-filled.result t.top t.costs t.rows.items c.push_reserved.new.self.items
    t.basis.items t.lines.items c.as_slice-lines.result.now c.push_reserved-2.new.self.items c.args.row.form
    c.fill_line-filled.new.row.line
    c.requires.tableau c.requires.fits c.as_slice-lines.ensures.value
    (c.push_reserved.ensures.items ∙ ap (λ (f : Form). t.rows.items ++ f ∷ []) c.fill_line-filled.ensures.form)
    c.push_reserved-2.ensures.items c.fill_line-filled.ensures.line

pub returns-clause-wide : goal.returns-clause-wide
returns-clause-wide c =
    let t = c.args.self.now in
    put_wide {X = Unit {0}} c.fill_line-filled.result t.top t.costs t.rows.items c.push_reserved.new.self.items
    t.basis.items t.lines.items c.as_slice-lines.result.now c.args.row.form
    c.requires.tableau c.requires.fits c.as_slice-lines.ensures.value
    (c.push_reserved.ensures.items ∙ ap (λ (f : Form). t.rows.items ++ f ∷ []) c.fill_line-filled.ensures.form)
    c.fill_line-filled.ensures.wide
