-- What a kernel holds, and the table in fractions that it stands for.
use Rattle.std.specs.Prelude.{◌≡◌, ℕ, suc, ◌*◌, ◌^◌, ◌<◌, ◌≤◌, List, ℤ, pos, ◌<ℤ◌, ◌≤ℤ◌, nat_abs, map, length, vec_capacity, All}
use Prim.Native.Nat.{◌∣◌}
use Rattle.std.specs.Vec.{with_items}
use Rattle.whole_numbers.specs.Fractions.{Fraction}
use Rattle.whole_numbers.specs.Lists.{number_at}
use Rattle.design_problem.specs.Basis.{member_form}
use Rattle.fraction_table.specs.declared.table.Table.{Table}
use Rattle.fraction_table.specs.ValidTables.{HasRoom, IsUnboxedTable, IsTableau, members_of_box, number_of_form}
use Rattle.fraction_table.specs.Pivots.{member_at}
use Rattle.integer_pivots.specs.Leads.{AreLeads}
use Rattle.integer_pivots.specs.Lines.{IsLine, rows_of}
use Rattle.integer_pivots.specs.Uses.{uses_in, uses_by}
use Rattle.integer_pivots.specs.Numbers.{AllWithin, weight_of}
use Rattle.table_kernel.specs.declared.kernel.Kernel.{Kernel}
use Rattle.table_kernel.specs.Bases.{AreAtBasis}
use Rattle.table_kernel.specs.Numbers.{fraction_lines, scaled_line, share_of}

-- how many variables the box has
abbrev pub width_of : Kernel → ℕ
width_of k = length k.table.costs.low

-- the numbers of x - low for each variable over the common denominator: its constant, and then those at the columns
abbrev pub lows_of : Kernel → List (List ℤ)
lows_of k = map (scaled_line (nat_abs k.common)) k.lows.items

-- the lines of all forms of a kernel, in fractions
abbrev pub kernel_lines : Kernel → List (List Fraction)
kernel_lines k = fraction_lines (nat_abs k.common) k.table.costs k.table.rows.items (lows_of k)

-- the table in fractions that the kernel stands for
abbrev pub stated : Kernel → Table
stated k = record {
  top = k.table.top;
  costs = k.table.costs;
  rows = k.table.rows;
  basis = k.table.basis;
  lines = with_items k.table.lines (kernel_lines k);
  quotients = k.table.quotients;
  scratch = k.table.scratch;
}

-- how long the lists of a kernel are, where its columns lead, and that its uses are those of its rows
pub record IsShaped (k : Kernel) : Type 0 where
  pub room : HasRoom k.table
  pub lows : length k.lows.items ≡ width_of k
  pub each : All (λ line. length line.numbers ≡ width_of k) k.lows.items
  pub leads : length k.leads.items ≡ width_of k
  pub lead : AreLeads (rows_of k.lows.items) k.leads.items
  pub constants : length k.constants.items ≡ length (members_of_box k.table.costs (length k.table.rows.items))
  pub uses : uses_in k.uses.items ≡ uses_by k.table.rows.items (width_of k)
  pub turns : length k.turns.items ≡ width_of k
  pub left : width_of k ≤ vec_capacity k.left
  pub entering : length k.entering.numbers ≡ width_of k
  pub lines : length k.table.lines.items ≡ length k.constants.items
  pub wide : All (λ line. length line ≡ suc (width_of k)) k.table.lines.items

-- How large the numbers of a kernel are: those of lines and all denominators at most 2^30; the constants of x - low
-- over the common denominator, of which all others are divisors, at most 2^44, and those of all forms at most 2^62; a
-- row's coefficients together at most 2^16.
pub record IsBounded (k : Kernel) : Type 0 where
  pub top : 2 ^ 126 ≤ k.table.top
  pub positive : pos 0 <ℤ k.common
  pub common : k.common ≤ℤ pos (2 ^ 30)
  pub lines : All IsLine k.lows.items
  pub divides : All (λ line. nat_abs line.denominator ∣ nat_abs k.common) k.lows.items
  pub low : All (λ line. nat_abs line.constant * share_of (nat_abs k.common) line ≤ 2 ^ 44) k.lows.items
  pub constants : AllWithin (2 ^ 62) k.constants.items
  pub rows : All (λ f. weight_of f ≤ 2 ^ 16) k.table.rows.items

-- the numbers of the table that the kernel stands for are those that it holds
pub record AreKernelNumbers (k : Kernel) (u : IsUnboxedTable (stated k)) : Type 0 where
  pub common : pos u.common ≡ k.common
  pub lows : u.lows ≡ lows_of k
  pub constants : (place : ℕ) → place < length k.constants.items →
      number_at k.constants.items place ≡ number_of_form u.common k.table.costs.low u.lows
      (member_form (width_of k) k.table.rows.items (member_at k.table place)) 0

-- a kernel while its bounds move: the ranges may be empty, and its constants are those of the box before
pub record IsMoving (k : Kernel) : Type 0 where
  pub shaped : IsShaped k
  pub bounded : IsBounded k
  pub basis : AreAtBasis k.table.costs k.table.rows.items k.table.basis.items (nat_abs k.common) (lows_of k)

-- a kernel of a box and of rows at a basis
pub record IsKernel (k : Kernel) : Type 0 where
  pub shaped : IsShaped k
  pub bounded : IsBounded k
  pub tableau : IsTableau (stated k)
  pub numbers : AreKernelNumbers k tableau.unboxed
