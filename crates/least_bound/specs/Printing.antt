-- What is printed beside the rows and trees: a floor, and costs where there are some.
use Rattle.std.specs.Prelude.{◌≡◌, ℕ, ◌<◌, List, length, slice_index, Option, None, Some}
use Rattle.design_problem.specs.declared.answer.CapTree.{CapTree}
use Rattle.design_problem.specs.declared.answer.Costs.{Costs}
use Rattle.design_problem.specs.declared.answer.Floor.{Floor}
use Rattle.design_problem.specs.declared.answer.Floor.TheVariants.{Absent, Empty, Var}
use Rattle.design_problem.specs.Problems.{DesignProblem}
use Rattle.design_problem.specs.Rows.{greatest_cost}
use Rattle.printed_rows.specs.PrintedCosts.{ArePrintedCosts}

-- a floor at the greatest of the lower bounds: a variable that has it, or no variable at all
abbrev pub ShowsFloor : List ℕ → Floor → Type 0
ShowsFloor low Absent = ⊥
ShowsFloor low Empty = length low ≡ 0
ShowsFloor low (Var v) = (v < length low) × (slice_index low v ≡ greatest_cost low)

-- a floor, unless a tree is kept
abbrev pub IsFloorFor : DesignProblem → Option CapTree → Floor → Type 0
IsFloorFor p None floor = ShowsFloor p.low floor
IsFloorFor p (Some t) floor = floor ≡ Absent

-- costs and their printed lines, or neither
abbrev pub ArePrintedIfAny : DesignProblem → Option (List ℕ) → Option Costs → Type 0
ArePrintedIfAny p None None = Unit {0}
ArePrintedIfAny p (Some w) (Some costs) = ArePrintedCosts p w costs
ArePrintedIfAny p None (Some costs) = ⊥
ArePrintedIfAny p (Some w) None = ⊥
