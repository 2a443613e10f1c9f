-- One more line is put.
use Rattle.std.proofs.Common.{[]}
use Rattle.cost_base.proofs.ListLemmas.{put_more}
use Rattle.integer_pivots.specs.UnitLines.{unit_line_of}
use Rattle.integer_pivots.proofs.first_lines.unit_lines.Goals as goal

pub loop-var-preserved : goal.loop-var-preserved
loop-var-preserved c =
    put_more [] c.loop-var.lines.items c.push.new.self.items (unit_line_of c.args.width) c.loop-var.var _
    c.in_ok-push.ensures.items c.loop-var.invariant c.in_ok-unit_line.ensures
