use Rattle.std.proofs.Common.{drop, None}
use Rattle.std.specs.Option.{option_copied}
use Rattle.design_problem.specs.Text.{cost_lines}
use Rattle.text_lines.specs.Lines.{with_ends}
use Rattle.evidence_text.proofs.PutLines.{IsUnderway}
use Rattle.evidence_text.proofs.put_parts.put_lines_of_costs.Given as goal

abbrev pub invariant-loop-cost : goal.invariant-loop-cost
invariant-loop-cost g l =
    IsUnderway (g.K.Sink.got l.initial.out) (g.K.Sink.got l.out) (g.K.Sink.faults l.initial.out) (g.K.Sink.faults l.out)
    (cost_lines (option_copied l.before) (drop l.cost-index l.costs)) (with_ends (cost_lines None l.costs))
