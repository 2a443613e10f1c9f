-- What is answered of the sets of a problem.
use Rattle.std.specs.Prelude.{ℕ, List, [], ◌∷◌, codes}
use Rattle.cost_base.specs.Decimal.{decimal}
use Rattle.design_problem.specs.declared.tree.Entry.{Entry}
use Rattle.design_problem.specs.Problems.{DesignProblem}
use Rattle.design_problem.specs.Trees.{IsClosed}
use Rattle.design_problem.specs.Answers.{greatest_bound, whole_box}
use Rattle.design_problem.specs.Text.{row_line, spaced}
use Rattle.printed_rows.specs.FittingTexts.{FitText}
use Rattle.printed_rows.specs.PrintedTrees.{IsPrintedOver, IsUndecidedOver}
use Rattle.printed_rows.specs.Sheets.{IsSheet}
use Rattle.spread_sets.specs.declared.spread.SetRow.{SetRow}
use Rattle.spread_sets.specs.declared.spread.SetRow.TheVariants.{Outsider, Same}
use Rattle.spread_sets.specs.declared.spread.Spread.{Spread}
use Rattle.spread_sets.specs.declared.spread.Spread.TheVariants.{Fit, Impossible, Undecided}
use Rattle.spread_sets.specs.Spreads.{IsFormOfSetRow, IsSetRow, IsSpreadFit, SetRowsDiffer, SharesEach, all_sets, forms_of_set_rows}

-- the line of a row as it is printed
abbrev pub set_row_line : SetRow → List ℕ
set_row_line (Outsider name outsider) = row_line (record { request = name; rival = outsider })
set_row_line (Same name i j) = spaced (codes "same" ∷ decimal name ∷ decimal i ∷ decimal j ∷ [])

-- no costs are spread-fit
abbrev pub HasNoSpread : DesignProblem → List (List ℕ) → Type 0
HasNoSpread p sets = (w : List ℕ) → IsSpreadFit p sets w → ⊥

-- the rows of sets and the entries of a tree are a sheet
abbrev pub IsSheetOfSets : DesignProblem → List (List ℕ) → List SetRow → List Entry → Type 0
IsSheetOfSets p sets rows tree = IsSheet (IsSetRow p sets) SetRowsDiffer 0 rows tree

-- Rows and a tree of them over the box at the greatest bound: they are a sheet, the tree is earnest, and both fit a
-- text.
pub record IsTreeOfSpreadSets (p : DesignProblem) (sets : List (List ℕ)) (top nodes : ℕ) (rows : List SetRow) (tree : List Entry) : Type 0 where
  pub sheet : IsSheetOfSets p sets rows tree
  pub printed : IsPrintedOver (SharesEach p sets) (IsFormOfSetRow p sets) top nodes (forms_of_set_rows p rows) (whole_box p) tree
  pub fits : FitText set_row_line (greatest_bound p) rows tree

-- rows and a tree of them that used up the budget: it has an Undone and exactly N entries
pub record IsUndecidedOfSpreadSets (p : DesignProblem) (sets : List (List ℕ)) (top nodes : ℕ) (rows : List SetRow) (tree : List Entry) : Type 0 where
  pub sheet : IsSheetOfSets p sets rows tree
  pub used_up : IsUndecidedOver (SharesEach p sets) (IsFormOfSetRow p sets) top nodes (forms_of_set_rows p rows) (whole_box p) tree
  pub fits : FitText set_row_line (greatest_bound p) rows tree

-- what is found of sets: spread-fit costs; a closed tree, and there are none; or a tree that used up the budget
abbrev pub IsFoundOf : DesignProblem → List (List ℕ) → ℕ → ℕ → Spread → Type 0
IsFoundOf p sets top nodes (Fit w) = IsSpreadFit p sets w
IsFoundOf p sets top nodes (Impossible rows tree) = IsTreeOfSpreadSets p sets top nodes rows.items tree × IsClosed tree × HasNoSpread p sets
IsFoundOf p sets top nodes (Undecided rows tree) = IsUndecidedOfSpreadSets p sets top nodes rows.items tree

-- what is answered of the sets of lines and the paths in no line
abbrev pub IsSpreadFound : DesignProblem → List (List ℕ) → ℕ → ℕ → Spread → Type 0
IsSpreadFound p lines top nodes found = IsFoundOf p (all_sets p lines) top nodes found
