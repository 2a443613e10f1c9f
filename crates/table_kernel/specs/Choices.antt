-- How the columns are narrowed down of which one is chosen. No public clause cites it.
use Rattle.std.specs.Prelude.{◌≡◌, ℕ, ◌<◌, ◌⊎◌, List, [], ℤ, nat_abs, slice_index_or, vec_len}
use Rattle.cost_base.specs.Lists.{Has}
use Rattle.whole_numbers.specs.Lists.{number_at}
use Rattle.fraction_table.specs.Pivots.{LeadsNoNegative, numbers_in_column, turned_column}
use Rattle.integer_pivots.specs.Choices.{IsPositiveAt, crosswise}
use Rattle.integer_pivots.specs.Lines.{rows_of}
use Rattle.table_kernel.specs.declared.kernel.Kernel.{Kernel}

-- the first column, over the line's number there, doesn't come after the second one over its own
abbrev pub ComesFirst : List (List ℤ) → List ℤ → ℕ → ℕ → Type 0
ComesFirst rows line first second =
    LeadsNoNegative (turned_column (nat_abs (number_at line first)) (numbers_in_column second rows) (number_at line second) (numbers_in_column first rows))

-- columns in which a line is positive, of which the first so many variables' lines tell none apart; each other column
-- in which it is positive comes behind them
pub record AreColumnsLeft (rows : List (List ℤ)) (line : List ℤ) (count : ℕ) (left : List ℕ) : Type 0 where
  pub each : (c : ℕ) → Has left c → IsPositiveAt line c
  pub level : (c d u : ℕ) → Has left c → Has left d → u < count → crosswise (slice_index_or rows u []) line c d ≡ crosswise (slice_index_or rows u []) line d c
  pub others : (c : ℕ) → IsPositiveAt line c → Has left c ⊎ ((d : ℕ) → Has left d → ComesFirst rows line d c)

-- a kernel's columns that are left once so many variables were looked at: at least one is
pub record HasColumnsLeft (k : Kernel) (count : ℕ) : Type 0 where
  pub some : 0 < vec_len k.left
  pub columns : AreColumnsLeft (rows_of k.lows.items) k.entering.numbers count k.left.items
