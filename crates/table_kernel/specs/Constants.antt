-- The constants of all forms of a kernel, by its lines of x - low.
use Rattle.std.specs.Prelude.{◌≡◌, ℕ, ◌+◌, ◌*◌, ◌^◌, ◌<◌, ◌≤◌, List, ℤ, pos, ◌-ℤ◌, ◌*ℤ◌, ◌<ℤ◌, nat_abs, length, slice_index, slice_index_or, All}
use Prim.Native.Nat.{◌∣◌}
use Rattle.whole_numbers.specs.Lists.{number_at}
use Rattle.design_problem.specs.declared.boxes.CostBox.{CostBox}
use Rattle.design_problem.specs.declared.form.Form.{Form}
use Rattle.design_problem.specs.declared.tree.Member.TheVariants.{Low}
use Rattle.design_problem.specs.Basis.{member_form}
use Rattle.design_problem.specs.Forms.{no_form}
use Rattle.fraction_table.specs.Tableaus.{FitsBox}
use Rattle.fraction_table.specs.ValidTables.{members_of_box, number_of_form}
use Rattle.integer_pivots.specs.declared.line.Line.{Line}
use Rattle.integer_pivots.specs.Lines.{no_line}
use Rattle.table_kernel.specs.declared.kernel.Kernel.{Kernel}
use Rattle.table_kernel.specs.Kernels.{IsBounded, IsShaped, lows_of, width_of}
use Rattle.table_kernel.specs.Numbers.{share_of}
use Rattle.table_kernel.specs.Rows.{IsCovered, row_constant_of}

-- the constant of a line over the common denominator
abbrev pub line_constant : ℤ → Line → ℤ
line_constant common line = line.constant *ℤ pos (share_of (nat_abs common) line)

-- the line's denominator goes into the common one, over which its constant is at most 2^44
pub record IsShortConstant (common : ℤ) (line : Line) : Type 0 where
  pub positive : pos 0 <ℤ line.denominator
  pub divides : nat_abs line.denominator ∣ nat_abs common
  pub limit : nat_abs line.constant * share_of (nat_abs common) line ≤ 2 ^ 44

-- the constant of high - x of a variable, by that of x - low
abbrev pub high_constant : ℕ → ℕ → ℤ → ℤ → ℤ
high_constant low high common constant = (common *ℤ (pos high -ℤ pos low)) -ℤ constant

-- the constant of x - low for a variable, over the common denominator
abbrev pub constant_of_line : Kernel → ℕ → ℤ
constant_of_line k var = line_constant k.common (slice_index_or k.lows.items var no_line)

-- numbers that are the constants of the forms of a box and of rows, over a denominator, by the numbers of x - low
abbrev pub AreConstants : CostBox → List Form → ℕ → List (List ℤ) → List ℤ → Type 0
AreConstants costs rows D lows constants =
    (place : ℕ) → place < length constants →
    number_at constants place ≡ number_of_form D costs.low lows
    (member_form (length costs.low) rows (slice_index_or (members_of_box costs (length rows)) place (Low 0 0))) 0

-- a kernel's constants are those of its forms over its common denominator
pub record AreConstantsPut (k : Kernel) (constants : List ℤ) : Type 0 where
  pub count : length constants ≡ length k.constants.items
  pub each : AreConstants k.table.costs k.table.rows.items (nat_abs k.common) (lows_of k) constants

-- the kernels differ in their constants alone
pub record KeepsAllButConstants (old new : Kernel) : Type 0 where
  pub table : new.table ≡ old.table
  pub common : new.common ≡ old.common
  pub lows : new.lows ≡ old.lows
  pub leads : new.leads ≡ old.leads
  pub uses : new.uses ≡ old.uses
  pub turns : new.turns ≡ old.turns
  pub left : new.left ≡ old.left
  pub entering : new.entering ≡ old.entering

-- The constants of the other forms are what those of x - low, which stand first, make of them: that of high - x for
-- each variable, and those of the rows.
pub record AreByFirst (k : Kernel) (constants : List ℤ) : Type 0 where
  pub count : length constants ≡ length k.constants.items
  pub high : (v : ℕ) → v < width_of k →
      number_at constants (width_of k + v) ≡ high_constant (slice_index k.table.costs.low v) (slice_index k.table.costs.high v) k.common (number_at constants v)
  pub rows : (row : ℕ) → row < length k.table.rows.items →
      number_at constants (width_of k + width_of k + row) ≡ row_constant_of k.common k.table.costs.low constants (slice_index_or k.table.rows.items row no_form)

-- the constants of x - low for each variable, which stand first, are at most 2^44
abbrev pub AreFirstSmall : Kernel → List ℤ → Type 0
AreFirstSmall k constants = (v : ℕ) → v < width_of k → nat_abs (number_at constants v) ≤ 2 ^ 44

-- a kernel's constants of x - low are at most 2^44, and those of its other forms are what they make of them
pub record AreMadeByFirst (k : Kernel) (constants : List ℤ) : Type 0 where
  pub small : AreFirstSmall k constants
  pub others : AreByFirst k constants

-- for each variable of the box both bounds, a line of x - low, and a place for each of its two constants
pub record HavePlacesOfBox (costs : CostBox) (lines : List Line) (constants : List ℤ) : Type 0 where
  pub high : length costs.high ≡ length costs.low
  pub variables : length lines ≡ length costs.low
  pub places : length costs.low + length costs.low ≤ length constants

-- rows that fit the box and are covered
pub record AreCoveredRows (costs : CostBox) (rows : List Form) : Type 0 where
  pub fit : All (FitsBox costs) rows
  pub light : All IsCovered rows

-- a kernel's lists and sizes are those of one; its box has both bounds of each variable, and its rows fit the box
pub record MayPutConstants (k : Kernel) : Type 0 where
  pub shaped : IsShaped k
  pub bounded : IsBounded k
  pub fit : All (FitsBox k.table.costs) k.table.rows.items
  pub high : length k.table.costs.high ≡ width_of k
