-- What a pivot of a table needs and leaves.
use Rattle.std.specs.Prelude.{◌≡◌, ◌≢◌, Bool, true, false, ℕ, zero, suc, ◌<◌, List, [], ◌∷◌, ℤ, pos, negsuc, ◌-ℤ◌, ◌*ℤ◌, ◌<ℤ◌, ◌≤ℤ◌, Option, None, Some, map, length, slice_index_or, All}
use Rattle.std.specs.declared.cmp.Ordering.{Ordering}
use Rattle.whole_numbers.specs.Fractions.{Fraction, order, times}
use Rattle.whole_numbers.specs.Lists.{number_at}
use Rattle.design_problem.specs.declared.tree.Member.{Member}
use Rattle.design_problem.specs.declared.tree.Member.TheVariants.{Low}
use Rattle.design_problem.specs.Basis.{entry, member_form}
use Rattle.design_problem.specs.Steps.{IsPivot}
use Rattle.fraction_table.specs.declared.table.Table.{Table}
use Rattle.fraction_table.specs.declared.stage.Solved.{Solved}
use Rattle.fraction_table.specs.declared.stage.Stage.TheVariants.{Ended}
use Rattle.fraction_table.specs.Ranks.{rank}
use Rattle.fraction_table.specs.ValidTables.{IsShown, IsTableau, members_of_box, numbers_of_form}

-- the first number that isn't 0, if there is one, is positive
abbrev pub LeadsNoNegative : List ℤ → Type 0
LeadsNoNegative [] = Unit {0}
LeadsNoNegative (pos zero ∷ zs) = LeadsNoNegative zs
LeadsNoNegative (pos (suc n) ∷ zs) = Unit {0}
LeadsNoNegative (negsuc n ∷ zs) = ⊥

-- the numbers that forms have in a column
abbrev pub numbers_in_column : ℕ → List (List ℤ) → List ℤ
numbers_in_column place lows = map (λ ts. number_at ts place) lows

-- the column x after the pivot on a form with the numbers a > 0 at the pivot's column y, and b at x: a·x - b·y
abbrev pub turned_column : ℕ → List ℤ → ℤ → List ℤ → List ℤ
turned_column a [] b ys = []
turned_column a (x ∷ xs) b [] = []
turned_column a (x ∷ xs) b (y ∷ ys) = ((pos a *ℤ x) -ℤ (b *ℤ y)) ∷ turned_column a xs b ys

-- No column whose number in the pivot's form is positive, each over that number, comes before the pivot's.
abbrev pub IsLeastColumn : ℕ → List (List ℤ) → List ℤ → ℕ → Type 0
IsLeastColumn n lows rs j =
    (k : ℕ) → k < n → k ≢ j → (a : ℕ) → number_at rs (suc j) ≡ pos a → pos 0 <ℤ number_at rs (suc k) →
    LeadsNoNegative (turned_column a (numbers_in_column (suc k) lows) (number_at rs (suc k)) (numbers_in_column (suc j) lows))

-- the line of a table that has this number
abbrev pub line_at : Table → ℕ → List Fraction
line_at t line = slice_index_or t.lines.items line []

-- the member of the box and the rows whose form stands in a line
abbrev pub member_at : Table → ℕ → Member
member_at t line = slice_index_or (members_of_box t.costs (length t.rows.items)) line (Low 0 0)

-- the numbers of the form of a line
abbrev pub numbers_of_line : (t : Table) → IsTableau t → ℕ → List ℤ
numbers_of_line t w line = numbers_of_form (length t.costs.low) w.unboxed.common t.costs.low w.unboxed.lows
    (member_form (length t.costs.low) t.rows.items (member_at t line))

-- the column is the least for the form of a line
abbrev pub IsLeastIn : Table → ℕ → ℕ → Type 0
IsLeastIn t line column = (w : IsTableau t) → IsLeastColumn (length t.costs.low) w.unboxed.lows (numbers_of_line t w line) column

-- a pivot on a line of the table, at a column that is the least for the line's form
pub record IsLeastPivot (t : Table) (line column : ℕ) : Type 0 where
  pub line_in : line < length t.lines.items
  pub pivot : IsPivot t.basis.items (line_at t line) (suc column)
  pub least : IsLeastIn t line column

-- the two tables are of one box and of the same rows
pub record KeepsBoxAndRows (old new : Table) : Type 0 where
  pub top : new.top ≡ old.top
  pub costs : new.costs ≡ old.costs
  pub rows : new.rows.items ≡ old.rows.items

-- By the line's form the first column doesn't come after the second, each over the form's number in it.
abbrev pub IsNotAfterInTable : Table → ℕ → ℕ → ℕ → Type 0
IsNotAfterInTable t line first second =
    (w : IsTableau t) → (a : ℕ) → number_at (numbers_of_line t w line) (suc first) ≡ pos a →
    LeadsNoNegative (turned_column a (numbers_in_column (suc second) w.unboxed.lows)
    (number_at (numbers_of_line t w line) (suc second)) (numbers_in_column (suc first) w.unboxed.lows))

-- what a test of two columns tells: whether the other column comes before
abbrev pub IsOrdered : Bool → Table → ℕ → ℕ → ℕ → Type 0
IsOrdered true t line column other = IsNotAfterInTable t line other column
IsOrdered false t line column other = IsNotAfterInTable t line column other

-- how a line's entry in the other column compares with its entry in the column, times a quotient
abbrev pub entries_order : List Fraction → ℕ → ℕ → Fraction → Ordering
entries_order fs column other quotient = order (entry fs (suc other)) (times (entry fs (suc column)) quotient)

-- What was found in a line in the columns before a bound: no positive entry; or one, whose column doesn't come after
-- that of any other.
abbrev pub IsBestBelow : Table → ℕ → ℕ → Option ℕ → Type 0
IsBestBelow t line bound None = (k : ℕ) → k < bound → (entry (line_at t line) (suc k)).numerator ≤ℤ pos 0
IsBestBelow t line bound (Some column) =
    IsPivot t.basis.items (line_at t line) (suc column)
    × ((k : ℕ) → k < bound → k ≢ column → pos 0 <ℤ (entry (line_at t line) (suc k)).numerator →
    IsNotAfterInTable t line column k)

-- no form of the table has a negative constant
abbrev pub AreHigh : Table → Type 0
AreHigh t = All (λ line. pos 0 ≤ℤ (entry line 0).numerator) t.lines.items

-- what one step of a simplex leaves: where it found the answer, the lines show it; else the rank rose
abbrev pub IsAhead : Table → Table → Option Solved → Type 0
IsAhead old new None = rank old < rank new
IsAhead old new (Some solved) = IsShown new.basis.items new.lines.items (Ended solved)
