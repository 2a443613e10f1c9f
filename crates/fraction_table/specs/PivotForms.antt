-- The pivot form: which of the forms with a negative constant comes into the basis.
use Rattle.std.specs.Prelude.{◌≡◌, ℕ, ◌+◌, ◌<◌, ◌≤◌, List, ℤ, pos, ◌<ℤ◌, ◌≤ℤ◌, Option, None, Some, length}
use Rattle.design_problem.specs.declared.form.Form.{Form}
use Rattle.design_problem.specs.Basis.{entry}
use Rattle.design_problem.specs.Forms.{form_at, terms_of}
use Rattle.fraction_table.specs.declared.table.Table.{Table}
use Rattle.fraction_table.specs.Pivots.{line_at}

-- how many terms a row's form has: as many as its coefficients that aren't 0
abbrev pub terms_in : List Form → ℕ → ℕ
terms_in rows row = length (terms_of (form_at rows row))

-- none of the first constants is negative
abbrev pub NoneNegative : ℕ → (ℕ → ℤ) → Type 0
NoneNegative count constant = (form : ℕ) → form < count → pos 0 ≤ℤ constant form

-- of the first rows with a negative constant the one with the fewest terms, of equals the first
pub record IsShortestNegative (count : ℕ) (rows : List Form) (constant : ℕ → ℤ) (row : ℕ) : Type 0 where
  pub among : row < count
  pub negative : constant row <ℤ pos 0
  pub fewest : (other : ℕ) → other < count → constant other <ℤ pos 0 → terms_in rows row ≤ terms_in rows other
  pub first : (other : ℕ) → other < row → constant other <ℤ pos 0 → terms_in rows row < terms_in rows other

-- the constants of the rows, which stand behind the forms x - low and high - x of n variables
abbrev pub row_constant : ℕ → (ℕ → ℤ) → ℕ → ℤ
row_constant n constant row = constant (n + n + row)

-- The pivot form, of the forms x - low and high - x of n variables and of rows, by their constants: the first form x -
-- low with a negative one; where there is none, the first form high - x with one; where there is none either, of the
-- rows with one the row with the fewest terms, of equals the first.
pub data IsPivotForm (n : ℕ) (rows : List Form) (constant : ℕ → ℤ) (form : ℕ) : Type 0 where
  of_box : form < n + n → constant form <ℤ pos 0 → NoneNegative form constant → IsPivotForm n rows constant form
  of_rows : (row : ℕ) → form ≡ n + n + row → NoneNegative (n + n) constant →
      IsShortestNegative (length rows) rows (row_constant n constant) row →
      IsPivotForm n rows constant form

-- what a search for the pivot form finds; none where no constant is negative
abbrev pub IsPivotFormFound : ℕ → List Form → (ℕ → ℤ) → Option ℕ → Type 0
IsPivotFormFound n rows constant None = NoneNegative (n + n + length rows) constant
IsPivotFormFound n rows constant (Some form) = IsPivotForm n rows constant form

-- what a search for the first negative one of some constants finds
abbrev pub IsFirstFound : ℕ → (ℕ → ℤ) → Option ℕ → Type 0
IsFirstFound count constant None = NoneNegative count constant
IsFirstFound count constant (Some form) = (form < count) × (constant form <ℤ pos 0) × NoneNegative form constant

-- what a search for the shortest of the first rows with a negative constant finds
abbrev pub IsShortestFound : ℕ → List Form → (ℕ → ℤ) → Option ℕ → Type 0
IsShortestFound count rows constant None = NoneNegative count constant
IsShortestFound count rows constant (Some row) = IsShortestNegative count rows constant row

-- the numerator of the constant of a line's form: it has the constant's sign
abbrev pub sign_at : Table → ℕ → ℤ
sign_at t line = (entry (line_at t line) 0).numerator

-- the line is that of the table's pivot form
abbrev pub IsPivotLine : Table → ℕ → Type 0
IsPivotLine t line = IsPivotForm (length t.costs.low) t.rows.items (sign_at t) line
