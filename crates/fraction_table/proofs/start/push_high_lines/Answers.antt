-- One more line is put.
use Rattle.std.proofs.Common.{◌∷◌, ◌∙◌, ap, map, suc, length, rules, SFits, w64}
use Rattle.std.specs.Prelude.{pos, negsuc, ◌-ℤ◌, slice_index}
use Rattle.std.proofs.lemmas.Int.{to_z-of_z}
use Rattle.cost_base.proofs.ListLemmas.{put_more}
use Rattle.whole_numbers.specs.Fractions.{whole}
use Rattle.design_problem.specs.Basis.{unit}
use Rattle.fraction_table.proofs.StartLines.{rows_more, unit_line_long}
use Rattle.fraction_table.proofs.start.push_high_lines.Goals as goal

pub loop-var-preserved : goal.loop-var-preserved
loop-var-preserved c =
    let line = c.in_ok-bound_line.field-0 in
    let fits : SFits w64 c.range_of-range.result = search rules in
    record {
      lines = put_more c.args.lines.now.items c.loop-var.lines.items c.push_last.new.things.items
          (λ v. whole (pos (slice_index c.args.high.now v) -ℤ pos (slice_index c.args.low.now v))
          ∷ map whole (unit (length c.args.low.now) v (negsuc 0))) c.loop-var.var line c.in_ok-push_last.ensures.added
          c.loop-var.invariant.lines (c.in_ok-bound_line.ensures.line
          ∙ ap (λ z. whole z ∷ map whole (unit (length c.args.low.now) c.loop-var.var (negsuc 0)))
          (to_z-of_z w64 c.range_of-range.result fits ∙ c.range_of-range.ensures.range));
      numbers = rows_more c.args.top (suc (length c.args.low.now)) c.loop-var.lines.items c.push_last.new.things.items line
          c.in_ok-push_last.ensures.added c.loop-var.invariant.numbers
          (unit_line_long line (length c.args.low.now) c.loop-var.var _ (negsuc 0) c.in_ok-bound_line.ensures.line)
          c.in_ok-bound_line.ensures.numbers;
    }
