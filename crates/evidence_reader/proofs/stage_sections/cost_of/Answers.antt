use Rattle.std.proofs.Common.{◌≡◌, sym, ◌∙◌, arith, codes}
use Rattle.std.proofs.lemmas.List.{append_cancel_left}
use Rattle.cost_base.specs.Decimal.{decimal}
use Rattle.text_lines.proofs.Printed.{decimal-same}
use Rattle.evidence_reader.proofs.stage_sections.cost_of.Goals as goal

pub returns-in_err-cost : goal.returns-in_err-cost
returns-in_err-cost c = rw c.from_residual.ensures (λ cost some few. c.in_err-cost.ensures cost (omega (arith, few)))

pub returns-then-cost-eq0 : goal.returns-then-cost-eq0
returns-then-cost-eq0 c =
    λ cost some few e.
    let read = c.in_ok-cost.cost in
    let same : decimal read ≡ decimal cost = append_cancel_left (codes " ip ospf cost ") (decimal read) (decimal cost) (sym c.in_ok-cost.ensures.1 ∙ e) in
    omega (arith, decimal-same read cost same)
