-- One more variable has 0 in the column.
use Rattle.std.proofs.Common.{◌≡◌, sym, ◌∙◌, ap, [], SFits, w64, to_z, rules}
use Rattle.std.specs.Prelude.{pos, slice_index_or}
use Rattle.std.proofs.lemmas.Int.{to_z-of_z}
use Rattle.std.proofs.lemmas.List.{get_or_default}
use Rattle.whole_numbers.specs.Lists.{number_at}
use Rattle.integer_pivots.specs.declared.line.Line.{Line}
use Rattle.integer_pivots.specs.Lines.{no_line, rows_of}
use Rattle.integer_pivots.proofs.ColumnLeads.{row_number}
use Rattle.integer_pivots.proofs.WrittenPlaces.{all_more}
use Rattle.integer_pivots.proofs.leads.lead_from.Goals as goal

pub loop-var-preserved : goal.loop-var-preserved
loop-var-preserved c zeros =
    let lines = c.args.lines.now in
    let i = c.loop-var.var in
    let column = c.args.column in
    let fits : SFits w64 c.at.result = search rules in
    let none : c.at.result ≡ pos 0 = sym (to_z-of_z w64 c.at.result fits) ∙ ap (to_z w64) c.if-at-ne0.false in
    let there : slice_index_or lines i no_line ≡ slice_index_or lines i c.index-lines-var.result =
    get_or_default lines i no_line c.index-lines-var.result c.loop-var-test.true in
    all_more (λ v. number_at (slice_index_or (rows_of lines) v []) column ≡ pos 0) i (c.loop-var.invariant zeros)
    (row_number lines i column
    ∙ ap (λ (line : Line). number_at line.numbers column) there
    ∙ sym c.at.ensures ∙ none)
