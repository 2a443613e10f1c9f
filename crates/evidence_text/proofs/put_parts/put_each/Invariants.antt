use Rattle.std.proofs.Common.{map, drop}
use Rattle.text_lines.specs.Lines.{with_ends}
use Rattle.evidence_text.proofs.PutLines.{IsUnderway}
use Rattle.evidence_text.proofs.put_parts.put_each.Given as goal

abbrev pub invariant-loop-item : goal.invariant-loop-item
invariant-loop-item g l =
    IsUnderway (g.K.Sink.got l.initial.out) (g.K.Sink.got l.out) (g.K.Sink.faults l.initial.out) (g.K.Sink.faults l.out)
    (map g.T.Printed.printed (drop l.item-index l.items)) (with_ends (map g.T.Printed.printed l.items))
