-- When the budget can't be used up.
use Rattle.std.specs.Prelude.{◌≡◌, ℕ, ◌+◌, ◌*◌, ◌≤◌, List, All, Contains}
use Rattle.design_problem.specs.declared.form.Row.{Row}
use Rattle.design_problem.specs.declared.tree.Entry.{Entry}
use Rattle.design_problem.specs.declared.tree.Entry.TheVariants.{Undone}
use Rattle.design_problem.specs.Problems.{DesignProblem, IsProblem, restricted}
use Rattle.design_problem.specs.Boxes.{points}
use Rattle.design_problem.specs.Rows.{IsRow, LeadsEach, forms_of_rows}
use Rattle.design_problem.specs.Trees.{entry_count}
use Rattle.design_problem.specs.Earnest.{IsEarnestOver, IsFormOfRow}
use Rattle.design_problem.specs.Answers.{whole_box}
use Rattle.least_conflict.specs.declared.conflict.Conflict.{Conflict}
use Rattle.least_conflict.specs.declared.conflict.Conflict.TheVariants.{Fit, Least, Undecided}
use Rattle.least_conflict.specs.Conflicts.{IsConflictFound, IsRequestSet}

-- fit costs, or a least conflict
abbrev pub IsConflictSettled : Conflict → Type 0
IsConflictSettled (Fit w) = Unit {0}
IsConflictSettled (Least members rows tree without) = Unit {0}
IsConflictSettled (Undecided members rows tree) = ⊥

-- The budget can't be used up: for no set of requests has an earnest tree over the box at the greatest bound an undone
-- entry and exactly as many entries as the budget.
abbrev pub IsSufficientForSets : DesignProblem → ℕ → ℕ → Type 0
IsSufficientForSets p top nodes =
    (members : List ℕ) (rows : List Row) (tree : List Entry) → IsRequestSet p members → All (IsRow p) rows →
    IsEarnestOver (LeadsEach (restricted p members)) (IsFormOfRow (restricted p members)) top (forms_of_rows p rows) (whole_box p) tree →
    Contains tree Undone → entry_count tree ≡ nodes → ⊥

-- where the budget can't be used up, what is found is fit costs or a least conflict
abbrev pub ConflictSettlesIfSufficient : Type 0
ConflictSettlesIfSufficient =
    (p : DesignProblem) (top nodes : ℕ) (conflict : Conflict) → IsSufficientForSets p top nodes →
    IsConflictFound p top nodes conflict → IsConflictSettled conflict

-- a budget of twice as many entries as the box at the greatest bound has points, less one, can't be used up
abbrev pub ConflictSufficientIfLarge : Type 0
ConflictSufficientIfLarge =
    (p : DesignProblem) (top nodes : ℕ) → IsProblem p → 2 * points (whole_box p) ≤ nodes + 1 → IsSufficientForSets p top nodes
