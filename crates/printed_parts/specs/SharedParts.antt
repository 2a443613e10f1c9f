-- Parts that the texts of requests and sets share.
use Rattle.std.specs.Prelude.{ℕ, List, ◌∷◌, map, length, Some}
use Rattle.cost_base.specs.Decimal.{decimal}
use Rattle.design_problem.specs.declared.answer.CapTree.{CapTree}
use Rattle.design_problem.specs.declared.tree.Entry.{Entry}
use Rattle.design_problem.specs.Problems.{DesignProblem}
use Rattle.design_problem.specs.Answers.{greatest_bound}
use Rattle.design_problem.specs.Text.{spaced, costs_lines}
use Rattle.printed_rows.specs.PrintedCosts.{named_costs}

-- a line of a word, how many numbers follow, and the numbers
abbrev pub counted_line : List ℕ → List ℕ → List ℕ
counted_line word numbers = spaced (word ∷ decimal (length numbers) ∷ map decimal numbers)

-- the part `costs` of a text: the cost of each free interface of a problem, by name
abbrev pub costs_part : DesignProblem → List ℕ → List (List ℕ)
costs_part p w = costs_lines (Some (named_costs p w))

-- the tree at the greatest bound
abbrev pub at_greatest_bound : DesignProblem → List Entry → CapTree
at_greatest_bound p tree = record { cap = greatest_bound p; tree = tree }
