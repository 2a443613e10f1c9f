-- Pools of rows.
use Rattle.std.specs.Prelude.{◌≡◌, List, ◌++◌, All, AllPairs}
use Rattle.design_problem.specs.Forms.{Form}
use Rattle.design_problem.specs.declared.form.Row.{Row}
use Rattle.design_problem.specs.Problems.{DesignProblem}
use Rattle.design_problem.specs.Rows.{IsRow, forms_of_rows}

-- a pool: rows, and a form for each
pub record Pooled : Type 0 where
  pub rows : List Row
  pub forms : List Form

-- the rows differ in their request or in their edges
abbrev pub Differ : Row → Row → Type 0
Differ a b = a.request ≡ b.request → a.rival ≡ b.rival → ⊥

-- rows of a problem, none twice
abbrev pub ArePoolRows : DesignProblem → List Row → Type 0
ArePoolRows p rows = All (IsRow p) rows × AllPairs Differ rows

-- a pool of a problem: each row is a row of the problem, none comes twice, and the forms are theirs, in order
pub record IsRowPool (p : DesignProblem) (pool : Pooled) : Type 0 where
  pub rows : All (IsRow p) pool.rows
  pub once : AllPairs Differ pool.rows
  pub forms : pool.forms ≡ forms_of_rows p pool.rows

-- rows came at the end, and nothing else
pub record MoreRows (old new : Pooled) : Type 0 where
  pub more : List Row
  pub same : new.rows ≡ old.rows ++ more
