-- The answer with other costs is valid, and its text is in the grammar.
use Rattle.std.proofs.Common.{◌≤◌, sym, ◌∙◌, ap, subst, List, ℕ, length}
use Rattle.std.specs.Prelude.{All, Some}
use Rattle.design_problem.specs.Answers.{AnswerParts, IsValid}
use Rattle.printed_rows.specs.PrintedCosts.{ArePrintedCosts}
use Rattle.least_total.specs.Results.{IsRecosted}
use Rattle.printed_rows.proofs.CostLaws.{fit_positive}
use Rattle.least_total.proofs.NewCosts.{recosted_is, recosted_kept}
use Rattle.least_total.proofs.recosting.recosted.Goals as goal
use Rattle.least_total.proofs.recosting.recosted.Goals.{In_ok-costs}

pub printed_costs-requires-clause-counted : goal.printed_costs-requires-clause-counted
printed_costs-requires-clause-counted c = ap length c.as_slice.ensures ∙ sym c.requires.optimal.2.0.within.low_count

pub printed_costs-requires-clause-positive : goal.printed_costs-requires-clause-positive
printed_costs-requires-clause-positive c =
    subst (λ (w : List ℕ). All (λ cost. 1 ≤ cost) w) (sym c.as_slice.ensures)
    (fit_positive c.args.problem.now c.args.costs.now c.keeps_problem_on_graph.ensures.problem c.requires.optimal.2.0)

-- the costs that are printed are those that were given
printed_at : (c : In_ok-costs) → ArePrintedCosts c.args.problem.now c.args.costs.now c.in_ok-costs.costs
printed_at c = subst (λ (w : List ℕ). ArePrintedCosts c.args.problem.now w c.in_ok-costs.costs) c.as_slice.ensures c.in_ok-costs.ensures

pub invariant_of-result : goal.invariant_of-result
invariant_of-result c =
    let a : AnswerParts = record {
      verdict = c.answer.inside.verdict;
      costs = c.answer.inside.costs;
      floor = c.answer.inside.floor;
      rows = c.answer.inside.rows;
      proof = c.answer.inside.proof;
      undecided =
          c.answer.inside.undecided;
    } in
    recosted_kept c.args.problem.now a c.args.costs.now c.in_ok-costs.costs c.answer.invariant
    (printed_at (goal.at.invariant_of-result c).In_ok-costs)

pub returns : goal.returns
returns c =
    let p = c.args.problem.now in
    let w = c.args.costs.now in
    let a : AnswerParts = record {
      verdict = c.answer.inside.verdict;
      costs = c.answer.inside.costs;
      floor = c.answer.inside.floor;
      rows = c.answer.inside.rows;
      proof = c.answer.inside.proof;
      undecided =
          c.answer.inside.undecided;
    } in
    let new : AnswerParts = record {
      verdict = c.answer.inside.verdict;
      costs = Some c.in_ok-costs.costs;
      floor = c.answer.inside.floor;
      rows = c.answer.inside.rows;
      proof = c.answer.inside.proof;
      undecided =
          c.answer.inside.undecided;
    } in
    let valid : IsValid p a = subst (IsValid p) (sym c.answer.view_is) c.requires.valid in
    let is = ap (λ (b : AnswerParts). b.verdict) c.answer.view_is ∙ c.requires.optimal.1 in
    subst (λ (b : AnswerParts). IsRecosted p b new w) c.answer.view_is
    (recosted_is p a c.requires.optimal.0 w c.in_ok-costs.costs c.keeps_problem_on_graph.ensures.problem valid is c.requires.optimal.2
    (printed_at (goal.at.returns c).In_ok-costs))
