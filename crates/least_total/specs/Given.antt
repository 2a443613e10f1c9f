-- The costs that an answer gives. No public clause cites it.
use Rattle.std.specs.Prelude.{◌≡◌, ℕ, List}
use Rattle.design_problem.specs.declared.answer.Verdict.TheVariants.{Optimal}
use Rattle.design_problem.specs.Problems.{DesignProblem}
use Rattle.design_problem.specs.Rows.{AreBestCosts, greatest_cost}
use Rattle.design_problem.specs.Answers.{AnswerParts}

-- best costs, whose greatest is told by the verdict
pub record AreGiven (p : DesignProblem) (a : AnswerParts) (w : List ℕ) : Type 0 where
  pub best : AreBestCosts p w
  pub verdict : a.verdict ≡ Optimal (greatest_cost w)
