-- The costs that the lines of an answer give.
use Rattle.std.specs.Prelude.{◌≡◌, ℕ, ◌⊎◌, List, [], ◌∷◌, length, replicate, slice_set}
use Rattle.design_problem.specs.declared.answer.CostLine.{CostLine}
use Rattle.design_problem.specs.declared.problem.VarName.{VarName}
use Rattle.design_problem.specs.Problems.{DesignProblem}

-- a line gives the variable this cost
abbrev pub GivesCost : List VarName → List CostLine → ℕ → ℕ → Type 0
GivesCost [] lines var cost = ⊥
GivesCost (name ∷ names) [] var cost = ⊥
GivesCost (name ∷ names) (line ∷ lines) var cost = ((name.var ≡ var) × (line.cost ≡ cost)) ⊎ GivesCost names lines var cost

-- the costs, each line's written at its variable
abbrev pub written : List ℕ → List VarName → List CostLine → List ℕ
written costs [] lines = costs
written costs (name ∷ names) [] = costs
written costs (name ∷ names) (line ∷ lines) = written (slice_set costs name.var line.cost) names lines

-- the costs that the lines give the variables
abbrev pub costs_given : DesignProblem → List CostLine → List ℕ
costs_given p lines = written (replicate (length p.low) 0) p.vars lines
