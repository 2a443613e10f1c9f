-- One more line is started.
use Rattle.std.proofs.Common.{◌≡◌, ◌∙◌, ap, sym, subst, List, length, arith}
use Rattle.std.specs.Prelude.{All}
use Rattle.design_problem.specs.declared.form.Form.{Form}
use Rattle.design_problem.specs.declared.boxes.CostBox.{CostBox}
use Rattle.fraction_table.specs.Tableaus.{FitsBox}
use Rattle.fraction_table.specs.ValidTables.{members_of_box}
use Rattle.fraction_table.proofs.Restarts.{keeps_lines, started_all, started_next}
use Rattle.fraction_table.proofs.table.Table.start_lines.Goals as goal

pub start_line-requires : goal.start_line-requires
start_line-requires c =
    let t = c.args.self.now in
    let keeps = c.loop-line.invariant.keeps in
    let counted : c.len-line-end.result ≡ length t.lines.items = omega (arith, c.len-line-end.ensures, t.lines.ok.0) in
    let many : length c.loop-line.self.lines.items ≡ length (members_of_box t.costs (length t.rows.items)) =
    c.loop-line.invariant.shape.many
    ∙ ap (λ (box : CostBox). length (members_of_box box (length c.loop-line.self.rows.items))) keeps.costs
    ∙ ap (λ rows. length (members_of_box t.costs (length rows.items))) keeps.rows in
    record {
      costs = keeps.costs ∙ c.requires.costs;
      ranges = c.requires.ranges;
      fits = subst (λ (rows : List Form). All (FitsBox c.args.costs.now) rows) (sym (ap (λ rows. rows.items) keeps.rows)) c.requires.fits;
      shape = c.loop-line.invariant.shape;
      line = omega (arith, c.loop-line-test.true, counted, many, c.requires.shape.many);
    }

pub loop-line-preserved : goal.loop-line-preserved
loop-line-preserved c =
    let t = c.args.self.now in
    let s = c.loop-line.self in
    let counted : c.len-line-end.result ≡ length t.lines.items = omega (arith, c.len-line-end.ensures, t.lines.ok.0) in
    let many = c.requires.shape.many ∙ ap (λ (box : CostBox). length (members_of_box box (length t.rows.items))) c.requires.costs in
    record {
      lines = started_next t s c.args.costs.now c.loop-line.line c.start_line.new.self.lines.items
          c.loop-line.invariant.keeps c.requires.costs many (omega (arith, c.loop-line-test.true, counted))
          c.loop-line.invariant.lines c.start_line.ensures.lines;
      shape = c.start_line.ensures.shape;
      keeps = keeps_lines t s c.start_line.new.self c.loop-line.invariant.keeps c.start_line.ensures.keeps;
    }

pub returns-clause-lines : goal.returns-clause-lines
returns-clause-lines c =
    let t = c.args.self.now in
    let counted : c.len-line-end.result ≡ length t.lines.items = omega (arith, c.len-line-end.ensures, t.lines.ok.0) in
    let many = c.requires.shape.many ∙ ap (λ (box : CostBox). length (members_of_box box (length t.rows.items))) c.requires.costs in
    started_all t c.args.costs.now c.loop-line.line c.loop-line.self.lines.items many
    (omega (arith, c.loop-line-test.false, c.loop-line.auto.line-end, counted)) c.loop-line.invariant.lines
