-- Sheets: the rows that are printed, with the entries of the trees that are printed beside them.
use Rattle.std.specs.Prelude.{◌≡◌, ℕ, ◌+◌, ◌<◌, List, length, All, AllPairs, true}
use Rattle.design_problem.specs.declared.tree.Entry.{Entry}
use Rattle.printed_rows.specs.NamedRows.{NamesBelow, is_row_named}

-- A sheet of rows of any kind and of the entries that name them by their places. Each row is a true one, none comes
-- twice, and some entry names each; a Halve names the rows of its basis. Each number that an entry names is that of a
-- row that is printed, or of one of so many forms that stand behind those of the rows.
pub record IsSheet {R : Type 0} (IsTrueRow : R → Type 0) (AreApart : R → R → Type 0) (behind : ℕ) (rows : List R) (entries : List Entry) : Type 0 where
  pub true_rows : All IsTrueRow rows
  pub once : AllPairs AreApart rows
  pub used : (row : ℕ) → row < length rows → is_row_named entries row ≡ true
  pub printed : All (NamesBelow (length rows + behind)) entries
