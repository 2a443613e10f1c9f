-- What one more row needs and leaves.
use Rattle.std.specs.Prelude.{◌≡◌, ℕ, ◌^◌, ◌<◌, ◌≤◌, List, ℤ, ◌+ℤ◌, ◌*ℤ◌, vec_capacity, vec_len}
use Rattle.design_problem.specs.declared.form.Form.{Form}
use Rattle.design_problem.specs.Forms.{value_for_costs}
use Rattle.fraction_table.specs.declared.add_row.BlankLine.{BlankLine}
use Rattle.fraction_table.specs.RowLines.{HasPlace, IsBlankLine}
use Rattle.integer_pivots.specs.Numbers.{product_sum, weight_of}
use Rattle.integer_pivots.specs.Uses.{HaveRoom, uses_in}
use Rattle.table_kernel.specs.declared.kernel.Kernel.{Kernel}

-- a form's constant at the basis over the common denominator, by those of x - low
abbrev pub row_constant_of : ℤ → List ℕ → List ℤ → Form → ℤ
row_constant_of common low constants f = (common *ℤ value_for_costs f low) +ℤ product_sum f.coefficients constants

-- the kernel's bounds hold with the row, too: its coefficients together are at most 2^16
abbrev pub IsCovered : Form → Type 0
IsCovered f = weight_of f ≤ 2 ^ 16

-- the kernels have the same numbers: of lines, constants and uses, over the same common denominator
pub record HoldsNumbers (old new : Kernel) : Type 0 where
  pub common : new.common ≡ old.common
  pub lows : new.lows ≡ old.lows
  pub leads : new.leads ≡ old.leads
  pub constants : new.constants.items ≡ old.constants.items
  pub uses : uses_in new.uses.items ≡ uses_in old.uses.items
  pub turns : new.turns ≡ old.turns
  pub left : vec_capacity old.left ≤ vec_capacity new.left
  pub entering : new.entering ≡ old.entering

-- there is a place for one more form, its line, its constant and its uses
pub record HasRowPlace (k : Kernel) : Type 0 where
  pub table : HasPlace k.table
  pub constants : vec_len k.constants < vec_capacity k.constants
  pub uses : HaveRoom k.uses.items

-- a row that fits the kernel's box, with a line of zeros; and there is a place for it
pub record MayAddRow (k : Kernel) (row : BlankLine) : Type 0 where
  pub place : HasRowPlace k
  pub blank : IsBlankLine k.table.costs row.form row.line
