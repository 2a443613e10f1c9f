-- When a kernel may turn at a pivot, and what is left where it may not.
use Rattle.std.specs.Prelude.{◌≡◌, ◌≢◌, ℕ, ◌*◌, ◌/◌, ◌^◌, ◌<◌, ◌≤◌, ◌⊎◌, List, ℤ, pos, ◌<ℤ◌, ◌≤ℤ◌, nat_abs, Some, length, slice_index_or, All}
use Prim.Native.Nat.{◌∣◌}
use Rattle.whole_numbers.specs.Lists.{number_at}
use Rattle.integer_pivots.specs.declared.line.Line.{Line}
use Rattle.integer_pivots.specs.declared.lowest.Lowest.{Lowest}
use Rattle.integer_pivots.specs.declared.turned_line.Turn.{Turn}
use Rattle.integer_pivots.specs.Leads.{AreLeads}
use Rattle.integer_pivots.specs.Lines.{IsLine, no_line, rows_of}
use Rattle.integer_pivots.specs.Numbers.{AllWithin}
use Rattle.integer_pivots.specs.Turns.{AreSmallAfter, AreTurnedLines, IsLowestAfter, IsTurnedLine, StaysSmall, common_after, denominator_after, turn_at, turned_number}
use Rattle.table_kernel.specs.declared.kernel.Kernel.{Kernel}
use Rattle.table_kernel.specs.Constants.{AreConstantsPut}
use Rattle.table_kernel.specs.Kernels.{IsKernel, width_of}
use Rattle.table_kernel.specs.Lines.{IsBestColumn, IsEntering, IsLineTooLarge, IsPivotPlace}
use Rattle.table_kernel.specs.Numbers.{share_of}

-- a kernel's line of x - low for a variable
abbrev pub line_of : Kernel → ℕ → Line
line_of k var = slice_index_or k.lows.items var no_line

-- how a variable's line turns at a column
abbrev pub turn_of_line : Kernel → ℕ → ℕ → Turn
turn_of_line k column var = turn_at k.entering column (line_of k var)

-- the common denominator after a pivot at a column
abbrev pub next_common : Kernel → ℕ → ℕ
next_common k column = common_after k.entering column k.lows.items (nat_abs k.common)

-- the size of the constant of x - low for a variable after a pivot, over a common denominator
abbrev pub constant_size : Kernel → ℕ → ℕ → ℕ → ℕ
constant_size k column common var =
    nat_abs (turned_number (turn_of_line k column var) (line_of k var).constant k.entering.constant) *
    (common / denominator_after k.entering column (line_of k var))

-- all lines of x - low stay small in a turn at a column
abbrev pub LinesStaySmall : Kernel → ℕ → Type 0
LinesStaySmall k column = (var : ℕ) → var < length k.lows.items → StaysSmall (turn_of_line k column var) (line_of k var) k.entering

-- all constants of x - low stay small, over a common denominator
abbrev pub ConstantsStaySmall : Kernel → ℕ → ℕ → Type 0
ConstantsStaySmall k column common = (var : ℕ) → var < length k.lows.items → constant_size k column common var ≤ 2 ^ 44

-- no number passes the bounds on the way of a turn at a column, by the sizes of the numbers before it
pub record StaysSmallThroughout (k : Kernel) (column : ℕ) : Type 0 where
  pub lines : LinesStaySmall k column
  pub common : next_common k column ≤ 2 ^ 30
  pub constants : ConstantsStaySmall k column (next_common k column)

-- Lines of x - low within the kernel's bounds: their numbers and denominators are at most 2^30, and so is the common
-- denominator, into which theirs go; over it no constant passes 2^44.
pub record AreBoundedLines (common : ℤ) (lows : List Line) : Type 0 where
  pub positive : pos 0 <ℤ common
  pub small : common ≤ℤ pos (2 ^ 30)
  pub lines : All IsLine lows
  pub divides : All (λ line. nat_abs line.denominator ∣ nat_abs common) lows
  pub limit : All (λ line. nat_abs line.constant * share_of (nat_abs common) line ≤ 2 ^ 44) lows

-- the bounds cover the turn at a column by the entering line: some lines within them stand for the turned numbers
pub record MayTurn (k : Kernel) (column : ℕ) : Type 0 where
  pub common : ℤ
  pub lows : List Line
  pub turned : AreTurnedLines k.entering column k.lows.items lows
  pub bounded : AreBoundedLines common lows

-- a place whose form is negative at the basis; its line is the entering one, and the column is a best one
pub record IsPivotIn (k : Kernel) (place column : ℕ) : Type 0 where
  pub kernel : IsKernel k
  pub place_in : place < length k.constants.items
  pub below : number_at k.constants.items place <ℤ pos 0
  pub entering : IsEntering k place
  pub best : IsBestColumn k (Some column)

-- the kernel's bounds don't cover a pivot at a place: its turn at the best column of the place's line passes them
pub record IsRefusedAt (k : Kernel) (place : ℕ) : Type 0 where
  pub column : ℕ
  pub entering : IsEntering k place
  pub best : IsBestColumn k (Some column)
  pub refused : MayTurn k column → ⊥

-- the kernel's bounds don't cover the pivot that is due: the line of the pivot form is too large, or a number of the
-- turn
pub record IsHeldUp (k : Kernel) : Type 0 where
  pub place : ℕ
  pub due : IsPivotPlace k place
  pub cause : IsLineTooLarge k place ⊎ IsRefusedAt k place

-- a turn that leaves a line as it is
abbrev pub no_turn : Turn
no_turn = record { multiplier = pos 1; factor = pos 0 }

-- the turn that a kernel holds for a variable
abbrev pub held_turn : Kernel → ℕ → Turn
held_turn k var = slice_index_or k.turns.items var no_turn

-- the turns that a kernel holds are those of its lines at a column
pub record AreTurns (k : Kernel) (column : ℕ) : Type 0 where
  pub count : length k.turns.items ≡ length k.lows.items
  pub each : (var : ℕ) → var < length k.lows.items → held_turn k var ≡ turn_of_line k column var

-- what the turn of a kernel at a column needs of its numbers
pub record IsReadyToTurn (k : Kernel) (column : ℕ) : Type 0 where
  pub inside : column < width_of k
  pub lows : length k.lows.items ≡ width_of k
  pub each : All (λ line. length line.numbers ≡ width_of k) k.lows.items
  pub lines : All IsLine k.lows.items
  pub divides : All (λ line. nat_abs line.denominator ∣ nat_abs k.common) k.lows.items
  pub common : (pos 0 <ℤ k.common) × (k.common ≤ℤ pos (2 ^ 30))
  pub limit : All (λ line. nat_abs line.constant * share_of (nat_abs k.common) line ≤ 2 ^ 44) k.lows.items
  pub entering : IsLine k.entering
  pub long : length k.entering.numbers ≡ width_of k
  pub pivot : pos 0 <ℤ number_at k.entering.numbers column
  pub turns : AreTurns k column

-- what the turn of one variable's line at a column needs
pub record IsLineReady (k : Kernel) (column var : ℕ) : Type 0 where
  pub inside : column < width_of k
  pub among : var < length k.lows.items
  pub line : IsLine (line_of k var)
  pub count : length (line_of k var).numbers ≡ width_of k
  pub limit : nat_abs (line_of k var).constant * share_of (nat_abs k.common) (line_of k var) ≤ 2 ^ 44
  pub entering : IsLine k.entering
  pub long : length k.entering.numbers ≡ width_of k
  pub pivot : pos 0 <ℤ number_at k.entering.numbers column
  pub held : var < length k.turns.items
  pub turn : held_turn k var ≡ turn_of_line k column var

-- a kernel of which some lines have turned: but for its lines of x - low it is as before
pub record KeepsAllButLows (old new : Kernel) : Type 0 where
  pub table : new.table ≡ old.table
  pub common : new.common ≡ old.common
  pub leads : new.leads ≡ old.leads
  pub constants : new.constants ≡ old.constants
  pub uses : new.uses ≡ old.uses
  pub turns : new.turns ≡ old.turns
  pub left : new.left ≡ old.left
  pub entering : new.entering ≡ old.entering

-- a variable's line has turned at a column: it is small, its denominator goes into the common one after the pivot, and
-- it stands for the turned numbers; where it has no number at the column, it is as before, and so are the others
pub record IsLineTurned (old new : Kernel) (column var : ℕ) : Type 0 where
  pub count : length new.lows.items ≡ length old.lows.items
  pub line : IsLine (line_of new var)
  pub turned : IsTurnedLine (turn_of_line old column var) column old.entering (line_of old var) (line_of new var)
  pub divides : nat_abs (line_of new var).denominator ∣ denominator_after old.entering column (line_of old var)
  pub stays : (turn_of_line old column var).factor ≡ pos 0 → line_of new var ≡ line_of old var
  pub others : (v : ℕ) → v ≢ var → line_of new v ≡ line_of old v

-- all lines have turned at a column
pub record AreLinesTurned (old new : Kernel) (column : ℕ) : Type 0 where
  pub turned : AreTurnedLines old.entering column old.lows.items new.lows.items
  pub lines : All IsLine new.lows.items
  pub divides : (v : ℕ) → v < length old.lows.items → nat_abs (line_of new v).denominator ∣ denominator_after old.entering column (line_of old v)
  pub stays : (v : ℕ) → v < length old.lows.items → (turn_of_line old column v).factor ≡ pos 0 → line_of new v ≡ line_of old v

-- what the turn of all numbers at a column leaves
pub record HasTurned (old new : Kernel) (column : ℕ) : Type 0 where
  pub table : new.table ≡ old.table
  pub uses : new.uses ≡ old.uses
  pub turns : new.turns ≡ old.turns
  pub left : new.left ≡ old.left
  pub entering : new.entering ≡ old.entering
  pub positive : pos 0 <ℤ new.common
  pub small : new.common ≤ℤ pos (2 ^ 30)
  pub turned : AreTurnedLines old.entering column old.lows.items new.lows.items
  pub lines : All IsLine new.lows.items
  pub divides : All (λ line. nat_abs line.denominator ∣ nat_abs new.common) new.lows.items
  pub limit : All (λ line. nat_abs line.constant * share_of (nat_abs new.common) line ≤ 2 ^ 44) new.lows.items
  pub leads_count : length new.leads.items ≡ length old.leads.items
  pub leads : AreLeads (rows_of old.lows.items) old.leads.items → AreLeads (rows_of new.lows.items) new.leads.items
  pub constants : AreConstantsPut new new.constants.items
  pub constants_small : AllWithin (2 ^ 62) new.constants.items
  pub constants_count : length new.constants.items ≡ length old.constants.items

-- what a variable's line comes to in lowest terms, once it has turned at a column
abbrev pub IsLowestOf : Kernel → ℕ → ℕ → Lowest → Type 0
IsLowestOf k column var lowest = IsLowestAfter (turn_of_line k column var) column k.entering (line_of k var) lowest

-- the numbers of a variable's line that has turned at a column are at most 2^30 in size, in lowest terms
abbrev pub IsSmallOf : Kernel → ℕ → ℕ → Lowest → Type 0
IsSmallOf k column var lowest = AreSmallAfter (turn_of_line k column var) column k.entering (line_of k var) lowest.part

-- the least common denominator of the lines that have turned, in lowest terms: it and their numbers are at most 2^30
pub record IsLowestCommon (k : Kernel) (column : ℕ) (common : ℤ) : Type 0 where
  pub positive : pos 0 <ℤ common
  pub small : common ≤ℤ pos (2 ^ 30)
  pub each : (var : ℕ) → var < length k.lows.items → (lowest : Lowest) → IsLowestOf k column var lowest →
      (nat_abs lowest.denominator ∣ nat_abs common) × IsSmallOf k column var lowest
  pub least : (lows : List Line) (other : ℕ) → AreTurnedLines k.entering column k.lows.items lows →
      All (λ line. nat_abs line.denominator ∣ other) lows → nat_abs common ∣ other

-- over a common denominator no constant of the lines that have turned passes 2^44, in lowest terms
abbrev pub FitsLowest : Kernel → ℕ → ℕ → Type 0
FitsLowest k column common = (var : ℕ) → var < length k.lows.items → (lowest : Lowest) → IsLowestOf k column var lowest →
    nat_abs lowest.constant * (common / nat_abs lowest.denominator) ≤ 2 ^ 44

-- a variable's line has turned at a column to what it comes to in lowest terms; the others are as before
pub record IsLineTurnedToLowest (old new : Kernel) (column var : ℕ) : Type 0 where
  pub count : length new.lows.items ≡ length old.lows.items
  pub line : IsLine (line_of new var)
  pub turned : IsTurnedLine (turn_of_line old column var) column old.entering (line_of old var) (line_of new var)
  pub lowest : Lowest
  pub is_lowest : IsLowestOf old column var lowest
  pub denominator : (line_of new var).denominator ≡ lowest.denominator
  pub constant : (line_of new var).constant ≡ lowest.constant
  pub others : (v : ℕ) → v ≢ var → line_of new v ≡ line_of old v
