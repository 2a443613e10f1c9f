use Rattle.std.proofs.Common.{inl, refl}
use Rattle.evidence_checker.proofs.LineLaws.{nothing_refuted}
use Rattle.evidence_checker.proofs.lines.refute_fault.Goals as goal

pub returns-then-not-rows_are_known : goal.returns-then-not-rows_are_known
returns-then-not-rows_are_known c =
    nothing_refuted c.args.forms.now c.args.costs.now c.args.parts.now
    (c.if-not-sum_is_small.ensures.0 refl)
    (inl c.if-not-rows_are_known.ensures)
