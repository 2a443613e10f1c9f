-- Lines behind lines, and costs by their names.
use Rattle.std.proofs.Common.{◌≡◌, ℕ, refl, sym, ◌∙◌, ap, List, [], ◌∷◌, ◌++◌, map}
use Rattle.std.specs.Prelude.{Some}
use Rattle.design_problem.specs.declared.problem.VarName.{VarName}
use Rattle.design_problem.specs.declared.answer.CostLine.{CostLine}
use Rattle.design_problem.specs.declared.answer.Costs.{Costs}
use Rattle.design_problem.specs.Problems.{DesignProblem}
use Rattle.design_problem.specs.Text.{costs_lines}
use Rattle.text_lines.specs.Lines.{with_ends}
use Rattle.evidence_text.specs.Lines.{AreShort}
use Rattle.text_lines.proofs.LineLaws.{with_ends-append}
use Rattle.design_problem.specs.Answers.{CostLinesOf}
use Rattle.printed_rows.specs.PrintedCosts.{ArePrintedCosts, named_cost, named_costs}
use Rattle.printed_rows.proofs.AnswerLines.{costs_short}

-- lines behind lines
pub joined : (first later : List (List ℕ)) (t u : List ℕ) → t ≡ with_ends first → u ≡ t ++ with_ends later → u ≡ with_ends (first ++ later)
joined first later t u one two = two ∙ ap (λ (bytes : List ℕ). bytes ++ with_ends later) one ∙ sym (with_ends-append first later)

-- The costs.

lines_are : (w : List ℕ) (names : List VarName) (lines : List CostLine) → CostLinesOf w names lines → lines ≡ map (named_cost w) names
lines_are w [] [] zipped = refl
lines_are w [] (line ∷ lines) zipped = absurd zipped
lines_are w (name ∷ names) [] zipped = absurd zipped
lines_are w (name ∷ names) (line ∷ lines) zipped =
    let here : line ≡ named_cost w name = λ i. record { router = zipped.0.0 i; interface = zipped.0.1 i; cost = zipped.0.2 i } in
    cc (here, lines_are w names lines zipped.1)

-- printed costs are the costs by their names
pub costs_are : (p : DesignProblem) (w : List ℕ) (costs : Costs) → ArePrintedCosts p w costs → costs ≡ named_costs p w
costs_are p w costs printed =
    let lines = lines_are w p.vars costs.lines printed.names in
    λ i. record { greatest = printed.greatest i; lines = lines i }

-- their lines are short
pub costs_part_short : (p : DesignProblem) (w : List ℕ) (costs : Costs) → ArePrintedCosts p w costs → AreShort (costs_lines (Some costs))
costs_part_short p w costs printed = costs_short (Some costs) (printed.named, printed.small)
