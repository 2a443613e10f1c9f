-- One more line is put.
use Rattle.std.proofs.Common.{◌∷◌, map, suc}
use Rattle.std.specs.Prelude.{pos}
use Rattle.cost_base.proofs.ListLemmas.{put_more}
use Rattle.whole_numbers.specs.Fractions.{whole}
use Rattle.design_problem.specs.Basis.{unit}
use Rattle.fraction_table.proofs.StartLines.{rows_more, unit_line_long}
use Rattle.fraction_table.proofs.start.push_low_lines.Goals as goal

pub loop-var-preserved : goal.loop-var-preserved
loop-var-preserved c =
    let line = c.in_ok-bound_line.field-0 in
    record {
      lines = put_more c.args.lines.now.items c.loop-var.lines.items c.push_last.new.things.items
          (λ v. whole (pos 0) ∷ map whole (unit c.args.width v (pos 1))) c.loop-var.var line c.in_ok-push_last.ensures.added
          c.loop-var.invariant.lines c.in_ok-bound_line.ensures.line;
      numbers = rows_more c.args.top (suc c.args.width) c.loop-var.lines.items c.push_last.new.things.items line
          c.in_ok-push_last.ensures.added c.loop-var.invariant.numbers
          (unit_line_long line c.args.width c.loop-var.var (pos 0) (pos 1) c.in_ok-bound_line.ensures.line)
          c.in_ok-bound_line.ensures.numbers;
    }
