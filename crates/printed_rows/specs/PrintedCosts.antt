-- Costs as they are printed.
use Rattle.std.specs.Prelude.{◌≡◌, ℕ, ◌<◌, ◌≤◌, List, map, slice_index, All}
use Rattle.cost_base.specs.Words.{IsWord}
use Rattle.design_problem.specs.declared.problem.VarName.{VarName}
use Rattle.design_problem.specs.declared.answer.CostLine.{CostLine}
use Rattle.design_problem.specs.declared.answer.Costs.{Costs}
use Rattle.design_problem.specs.Problems.{DesignProblem}
use Rattle.design_problem.specs.Rows.{greatest_cost}
use Rattle.design_problem.specs.Answers.{CostLinesOf}

-- a line of costs has names of at most 4,096 bytes, and a cost of an interface
abbrev pub IsNamedCost : CostLine → Type 0
IsNamedCost line = IsWord line.router × IsWord line.interface × (0 < line.cost) × (line.cost ≤ 65535)

-- the printed lines of costs, and their greatest
pub record ArePrintedCosts (p : DesignProblem) (w : List ℕ) (costs : Costs) : Type 0 where
  pub greatest : costs.greatest ≡ greatest_cost w
  pub small : costs.greatest ≤ 65535
  pub names : CostLinesOf w p.vars costs.lines
  pub named : All IsNamedCost costs.lines

-- a free interface with the cost of its variable
abbrev pub named_cost : List ℕ → VarName → CostLine
named_cost w name = record { router = name.router; interface = name.interface; cost = slice_index w name.var }

-- costs as an answer prints them: their greatest, and for each free interface the cost of its variable
abbrev pub named_costs : DesignProblem → List ℕ → Costs
named_costs p w = record { greatest = greatest_cost w; lines = map (named_cost w) p.vars }
