-- The line of a form at a kernel's basis, and the columns of which one is chosen.
use Rattle.std.specs.Prelude.{◌≡◌, ◌≢◌, ℕ, suc, ◌*◌, ◌+◌, ◌^◌, ◌<◌, ◌≤◌, List, [], ◌∷◌, ℤ, pos, ◌*ℤ◌, ◌<ℤ◌, ◌≤ℤ◌, nat_abs, Option, None, Some, map, length, vec_capacity}
use Rattle.cost_base.specs.Lists.{numbers_from}
use Rattle.whole_numbers.specs.Lists.{number_at}
use Rattle.design_problem.specs.declared.form.Form.{Form}
use Rattle.design_problem.specs.Basis.{member_form}
use Rattle.fraction_table.specs.PivotForms.{IsPivotForm}
use Rattle.fraction_table.specs.Pivots.{LeadsNoNegative, member_at, turned_column}
use Rattle.integer_pivots.specs.declared.line.Line.{Line}
use Rattle.integer_pivots.specs.Lines.{IsInLowestTerms, IsLine}
use Rattle.integer_pivots.specs.Numbers.{AllWithin}
use Rattle.table_kernel.specs.declared.kernel.Kernel.{Kernel}
use Rattle.table_kernel.specs.Numbers.{number_at_column, share_of}
use Rattle.table_kernel.specs.Kernels.{lows_of, width_of}

-- the kernels hold the same numbers: they differ in the room that work needs alone
pub record KeepsNumbers (old new : Kernel) : Type 0 where
  pub table : new.table ≡ old.table
  pub common : new.common ≡ old.common
  pub lows : new.lows ≡ old.lows
  pub leads : new.leads ≡ old.leads
  pub constants : new.constants ≡ old.constants
  pub uses : new.uses ≡ old.uses
  pub turns : length new.turns.items ≡ length old.turns.items
  pub left : vec_capacity old.left ≤ vec_capacity new.left
  pub entering : length new.entering.numbers ≡ length old.entering.numbers

-- the form of the member at a place: that of a variable's lower or upper bound, or of a row
abbrev pub form_of_place : Kernel → ℕ → Form
form_of_place k place = member_form (width_of k) k.table.rows.items (member_at k.table place)

-- the numbers of x - low for each variable at a column, over the common denominator
abbrev pub column_of : Kernel → ℕ → List ℤ
column_of k column = map (λ row. number_at row (suc column)) (lows_of k)

-- the numbers of a place's form at the columns, over the common denominator
abbrev pub numbers_of_place : Kernel → ℕ → List ℤ
numbers_of_place k place = map (λ column. number_at_column (form_of_place k place) (column_of k column)) (numbers_from 0 (width_of k))

-- a line's fractions are those of a place's form
pub record StandsForPlace (k : Kernel) (place : ℕ) (line : Line) : Type 0 where
  pub count : length line.numbers ≡ width_of k
  pub positive : pos 0 <ℤ line.denominator
  pub constant : (line.constant *ℤ k.common) ≡ (number_at k.constants.items place *ℤ line.denominator)
  pub numbers : (c : ℕ) → c < width_of k → (number_at line.numbers c *ℤ k.common) ≡ (number_at (numbers_of_place k place) c *ℤ line.denominator)

-- the kernel's entering line is that of a place's form
pub record IsEntering (k : Kernel) (place : ℕ) : Type 0 where
  pub stands : StandsForPlace k place k.entering
  pub line : IsLine k.entering

-- the sum of the sizes of the factors of which a row's line is made: its coefficients, each times how often the
-- denominator of its variable's line goes into the common one
abbrev pub factors_of : ℕ → List ℤ → List Line → ℕ
factors_of D [] lines = 0
factors_of D (c ∷ cs) [] = 0
factors_of D (c ∷ cs) (line ∷ lines) = nat_abs c * share_of D line + factors_of D cs lines

-- The line of a place's form passes the kernel's bounds: the factors of which it is made, or its numbers in lowest
-- terms.
pub data IsLineTooLarge (k : Kernel) (place : ℕ) : Type 0 where
  factors : 2 ^ 32 < factors_of (nat_abs k.common) (form_of_place k place).coefficients k.lows.items → IsLineTooLarge k place
  numbers : (line : Line) → StandsForPlace k place line → IsInLowestTerms line → (AllWithin (2 ^ 30) line.numbers → ⊥) → IsLineTooLarge k place

-- the first column, over its positive number in the entering line, doesn't come after the second one over its own
abbrev pub IsNotAfterInKernel : Kernel → ℕ → ℕ → Type 0
IsNotAfterInKernel k first second =
    LeadsNoNegative (turned_column (nat_abs (number_at k.entering.numbers first)) (column_of k second) (number_at k.entering.numbers second)
    (column_of k first))

-- a best of the columns in which the entering line is positive; none where it is positive in none
abbrev pub IsBestColumn : Kernel → Option ℕ → Type 0
IsBestColumn k None = (c : ℕ) → c < width_of k → number_at k.entering.numbers c ≤ℤ pos 0
IsBestColumn k (Some best) =
    (best < width_of k) × (pos 0 <ℤ number_at k.entering.numbers best)
    × ((c : ℕ) → c < width_of k → c ≢ best → pos 0 <ℤ number_at k.entering.numbers c → IsNotAfterInKernel k best c)

-- the pivot form of a kernel, by its place
abbrev pub IsPivotPlace : Kernel → ℕ → Type 0
IsPivotPlace k place = IsPivotForm (width_of k) k.table.rows.items (number_at k.constants.items) place
