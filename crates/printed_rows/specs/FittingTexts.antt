-- Rows and a tree that fit a text.
use Rattle.std.specs.Prelude.{ℕ, ◌≤◌, List, [], ◌∷◌, map, length, codes, All, Some}
use Rattle.cost_base.specs.Decimal.{decimal}
use Rattle.design_problem.specs.declared.tree.Entry.{Entry}
use Rattle.design_problem.specs.Text.{spaced, tree_lines}

-- a line that a text may have
abbrev pub IsTextLine : List ℕ → Type 0
IsTextLine line = length line ≤ 65536

-- rows, each with its line, and a tree over the box at a cap: no line of them passes 65,536 bytes
pub record FitText {R : Type 0} (line_of : R → List ℕ) (cap : ℕ) (rows : List R) (tree : List Entry) : Type 0 where
  pub rows_fit : All IsTextLine (spaced (codes "rows" ∷ decimal (length rows) ∷ []) ∷ map line_of rows)
  pub proof_fits : All IsTextLine (tree_lines (codes "proof") (Some (record { cap = cap; tree = tree })))
  pub open_fits : All IsTextLine (tree_lines (codes "open") (Some (record { cap = cap; tree = tree })))
