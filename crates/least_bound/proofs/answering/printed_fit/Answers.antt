-- Fit costs have one from 1 for each variable.
use Rattle.std.proofs.Common.{◌≤◌, ◌∙◌, List, ℕ, ap, length, subst, sym}
use Rattle.std.specs.Prelude.{All}
use Rattle.printed_rows.proofs.CostLaws.{fit_counted, fit_positive}
use Rattle.least_bound.proofs.answering.printed_fit.Goals as goal

pub printed_costs-requires-clause-counted : goal.printed_costs-requires-clause-counted
printed_costs-requires-clause-counted c = ap length c.as_slice.ensures ∙ fit_counted c.args.problem.now c.args.costs.now c.requires

pub printed_costs-requires-clause-positive : goal.printed_costs-requires-clause-positive
printed_costs-requires-clause-positive c =
    subst (λ (ws : List ℕ). All (λ cost. 1 ≤ cost) ws) (sym c.as_slice.ensures)
    (fit_positive c.args.problem.now c.args.costs.now c.keeps_problem_on_graph.ensures.problem c.requires)
