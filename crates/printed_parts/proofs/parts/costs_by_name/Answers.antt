-- The costs by their names, and in short lines.
use Rattle.std.proofs.Common.{◌≡◌, ◌≤◌, ◌∙◌, ap, sym, subst, List, ℕ, length}
use Rattle.std.specs.Prelude.{Some, All}
use Rattle.std.proofs.lemmas.Result.{IfOk-weaker}
use Rattle.design_problem.specs.Text.{costs_lines}
use Rattle.evidence_text.specs.Lines.{AreShort}
use Rattle.printed_rows.specs.PrintedCosts.{ArePrintedCosts, named_costs}
use Rattle.printed_rows.proofs.CostLaws.{box_positive}
use Rattle.printed_parts.proofs.TextParts.{costs_are, costs_part_short}
use Rattle.printed_parts.proofs.parts.costs_by_name.Goals as goal

pub printed_costs-requires-clause-counted : goal.printed_costs-requires-clause-counted
printed_costs-requires-clause-counted c = ap length c.as_slice.ensures ∙ sym c.requires.low_count

pub printed_costs-requires-clause-positive : goal.printed_costs-requires-clause-positive
printed_costs-requires-clause-positive c =
    subst (λ (ws : List ℕ). All (λ cost. 1 ≤ cost) ws) (sym c.as_slice.ensures)
    (box_positive c.args.problem.now c.args.costs.now c.keeps_problem_on_graph.ensures.problem c.requires)

pub returns-clause-named : goal.returns-clause-named
returns-clause-named c =
    let p = c.args.problem.now in
    let w = c.args.costs.now in
    IfOk-weaker c.printed_costs.result (ArePrintedCosts p c.as_slice.result.now) (λ costs. costs ≡ named_costs p w)
    (λ costs printed. costs_are p w costs (subst (λ (v : List ℕ). ArePrintedCosts p v costs) c.as_slice.ensures printed)) c.printed_costs.ensures

pub returns-clause-short : goal.returns-clause-short
returns-clause-short c =
    let p = c.args.problem.now in
    IfOk-weaker c.printed_costs.result (ArePrintedCosts p c.as_slice.result.now)
    (λ costs. AreShort (costs_lines (Some costs)))
    (λ costs printed. costs_part_short p c.as_slice.result.now costs printed) c.printed_costs.ensures
