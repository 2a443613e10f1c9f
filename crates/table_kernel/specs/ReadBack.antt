-- The lines of x - low, read back from the table in fractions.
use Rattle.std.specs.Prelude.{◌≡◌, ℕ, suc, ◌/◌, ◌^◌, ◌<◌, ◌≤◌, List, [], ℤ, pos, ◌*ℤ◌, ◌<ℤ◌, ◌≤ℤ◌, nat_abs, length, slice_index_or, All}
use Prim.Native.Nat.{◌∣◌}
use Rattle.whole_numbers.specs.Fractions.{Fraction}
use Rattle.whole_numbers.specs.Lists.{number_at}
use Rattle.design_problem.specs.Basis.{entry}
use Rattle.fraction_table.specs.declared.table.Table.{Table}
use Rattle.integer_pivots.specs.declared.line.Line.{Line}
use Rattle.integer_pivots.specs.Numbers.{AllWithin}
use Rattle.table_kernel.specs.declared.kernel.Kernel.{Kernel}
use Rattle.table_kernel.specs.Kernels.{IsShaped}
use Rattle.table_kernel.specs.Rows.{IsCovered}

-- the denominators of a line's fractions go into this number
abbrev pub AllGoInto : List Fraction → ℕ → Type 0
AllGoInto fractions D = (place : ℕ) → place < length fractions → (entry fractions place).denominator ∣ D

-- the least common denominator of a line's fractions, which is at most 2^30
pub record IsLeastDenominator (fractions : List Fraction) (d : ℤ) : Type 0 where
  pub positive : pos 0 <ℤ d
  pub small : d ≤ℤ pos (2 ^ 30)
  pub common : AllGoInto fractions (nat_abs d)
  pub least : (D : ℕ) → AllGoInto fractions D → nat_abs d ∣ D

-- a fraction's number over a multiple of its denominator
abbrev pub over_denominator : ℕ → Fraction → ℤ
over_denominator D q = q.numerator *ℤ pos (D / q.denominator)

-- the line has the numbers of a line of fractions, over their least common denominator
pub record IsReadFrom (fractions : List Fraction) (line : Line) : Type 0 where
  pub least : IsLeastDenominator fractions line.denominator
  pub count : length fractions ≡ suc (length line.numbers)
  pub constant : line.constant ≡ over_denominator (nat_abs line.denominator) (entry fractions 0)
  pub numbers : (c : ℕ) → c < length line.numbers → number_at line.numbers c ≡ over_denominator (nat_abs line.denominator) (entry fractions (suc c))

-- over this denominator a line of fractions is within a kernel's bounds for a line
pub record FitsOver (D : ℕ) (fractions : List Fraction) : Type 0 where
  pub positive : 0 < D
  pub small : D ≤ 2 ^ 30
  pub common : AllGoInto fractions D
  pub constant : nat_abs (over_denominator D (entry fractions 0)) ≤ 2 ^ 44
  pub numbers : (c : ℕ) → suc c < length fractions → nat_abs (over_denominator D (entry fractions (suc c))) ≤ 2 ^ 30

-- the line of x - low for a variable
abbrev pub low_line : Table → ℕ → List Fraction
low_line t var = slice_index_or t.lines.items var []

-- The kernel's bounds cover a table in fractions: each row's coefficients; over some denominator each line of x - low;
-- and over a common one their constants.
pub record MayReadBack (t : Table) : Type 0 where
  pub rows : All IsCovered t.rows.items
  pub denominator : ℕ → ℕ
  pub lines : (var : ℕ) → var < length t.costs.low → FitsOver (denominator var) (low_line t var)
  pub common : ℕ
  pub positive : 0 < common
  pub small : common ≤ 2 ^ 30
  pub divides : (var : ℕ) → var < length t.costs.low → denominator var ∣ common
  pub constants : (var : ℕ) → var < length t.costs.low → nat_abs (over_denominator common (entry (low_line t var) 0)) ≤ 2 ^ 44

-- What a kernel keeps while its table goes on in fractions: how long its lists are, where its columns lead, and how
-- large its constants are.
pub record IsParked (k : Kernel) : Type 0 where
  pub shaped : IsShaped k
  pub constants : AllWithin (2 ^ 62) k.constants.items

-- the least common denominator of lines, which is at most 2^30
pub record IsLeastCommon (lines : List Line) (common : ℤ) : Type 0 where
  pub positive : pos 0 <ℤ common
  pub small : common ≤ℤ pos (2 ^ 30)
  pub multiple : All (λ line. nat_abs line.denominator ∣ nat_abs common) lines
  pub least : (D : ℕ) → All (λ line. nat_abs line.denominator ∣ D) lines → nat_abs common ∣ D
