-- What a table holds, in numbers over one common denominator.
use Rattle.std.specs.Prelude.{◌≡◌, ◌≢◌, ℕ, zero, suc, ◌+◌, ◌^◌, ◌<◌, ◌≤◌, List, [], ◌∷◌, ◌++◌, ℤ, pos, ◌+ℤ◌, ◌*ℤ◌, ◌≤ℤ◌, map, length, slice_index, slice_index_or, All}
use Rattle.std.specs.List.{AllZip, AllByRecursion}
use Rattle.cost_base.specs.Lists.{numbers_from}
use Rattle.whole_numbers.specs.Fractions.{Fraction, StandsFor, whole}
use Rattle.whole_numbers.specs.Lists.{number_at}
use Rattle.design_problem.specs.declared.form.Form.{Form}
use Rattle.design_problem.specs.declared.boxes.CostBox.{CostBox}
use Rattle.design_problem.specs.declared.tree.Member.{Member}
use Rattle.design_problem.specs.declared.tree.Member.TheVariants.{Low, High, Row}
use Rattle.design_problem.specs.Forms.{no_form, value_for_costs}
use Rattle.design_problem.specs.Boxes.{IsBox}
use Rattle.design_problem.specs.Basis.{IsBasis, IsFormOf, IsMixture, LeadsPositive, entry, forms_of, low_member, member_form}
use Rattle.design_problem.specs.Steps.{IsRefutingForm}
use Rattle.fraction_lines.specs.TableLines.{AreTableNumbers}
use Rattle.fraction_table.specs.declared.table.Table.{Table}
use Rattle.fraction_table.specs.declared.stage.Stage.{Stage}
use Rattle.fraction_table.specs.declared.stage.Stage.TheVariants.{Open, Ended, Stopped}
use Rattle.fraction_table.specs.declared.stage.Solved.TheVariants.{Feasible, Refuted}
use Rattle.fraction_table.specs.Tableaus.{FitsBox, Held, IsGoing}

-- the sum of the lines' numbers at a place, each times the coefficient of its variable
abbrev pub from_lows : List ℤ → List (List ℤ) → ℕ → ℤ
from_lows [] rows place = pos 0
from_lows (c ∷ cs) [] place = pos 0
from_lows (c ∷ cs) (ts ∷ rows) place = (c *ℤ number_at ts place) +ℤ from_lows cs rows place

-- the number of a form at a place over D, by those of x - low for each variable
abbrev pub number_of_form : ℕ → List ℕ → List (List ℤ) → Form → ℕ → ℤ
number_of_form D low rows f zero = (pos D *ℤ value_for_costs f low) +ℤ from_lows f.coefficients rows 0
number_of_form D low rows f (suc k) = from_lows f.coefficients rows (suc k)

-- the numbers of a form at the places from 0 to n, by those of x - low for each of n variables
abbrev pub numbers_of_form : ℕ → ℕ → List ℕ → List (List ℤ) → Form → List ℤ
numbers_of_form n D low rows f = map (number_of_form D low rows f) (numbers_from 0 (suc n))

-- each line has the length n
abbrev pub AllLong : ℕ → List (List ℤ) → Type 0
AllLong n rows = AllByRecursion (λ ts. length ts ≡ n) rows

-- each form is the mixture of the basis by its numbers
abbrev pub AreMixtures : ℕ → List Form → List Form → List (List ℤ) → Type 0
AreMixtures D basis gs rows = AllZip (λ g ms. IsMixture g basis D ms) gs rows

-- the forms x - low of the variables from a on, in n variables
abbrev pub low_forms : ℕ → ℕ → List ℕ → List Form
low_forms n a [] = []
low_forms n a (l ∷ ls) = member_form n [] (Low a l) ∷ low_forms n (a + 1) ls

-- each fraction stands for its number over D
abbrev pub Stand : ℕ → List Fraction → List ℤ → Type 0
Stand D qs ms = AllZip (λ q m. StandsFor q m D) qs ms

-- the form high - x of a variable
abbrev pub high_member : CostBox → ℕ → Member
high_member costs var = High var (slice_index costs.high var)

-- the members of a box, in the order of its forms: x - low and then high - x for each variable, and the rows
abbrev pub members_of_box : CostBox → ℕ → List Member
members_of_box costs rows =
    map (low_member costs) (numbers_from 0 (length costs.low)) ++ map (high_member costs)
    (numbers_from 0 (length costs.low)) ++ map (λ row. Row row) (numbers_from 0 rows)

-- a line of the table: fractions, each a number of the table, that stand for the numbers of a member's form over D
pub record IsTableLine (top D : ℕ) (costs : CostBox) (rows : List Form) (lows : List (List ℤ)) (member : Member) (line : List Fraction) : Type 0 where
  pub numbers : AreTableNumbers top line
  pub stand : Stand D line (numbers_of_form (length costs.low) D costs.low lows (member_form (length costs.low) rows member))

-- The lines of a box and of rows at a basis. With a common denominator D and the numbers of x - low for each variable:
-- these mix the forms of the basis; the form of each column has D in it and 0 elsewhere; each column leads positive;
-- and each line stands for its form's numbers. The ranges may be empty, and the rows' values at the low corner may be
-- large: this is what a table keeps while its bounds move.
pub record IsUnboxed (top : ℕ) (costs : CostBox) (rows : List Form) (basis : List Member) (table : List (List Fraction)) : Type 0 where
  pub high_count : length costs.high ≡ length costs.low
  pub counts : All (λ f. length f.coefficients ≡ length costs.low) rows
  pub count : length basis ≡ length costs.low
  pub members : All (IsFormOf costs rows) basis
  pub common : ℕ
  pub positive : 0 < common
  pub lows : List (List ℤ)
  pub long : AllLong (suc (length costs.low)) lows
  pub mixtures : AreMixtures common (forms_of costs rows basis) (low_forms (length costs.low) 0 costs.low) lows
  pub own : (k : ℕ) → k < length costs.low → number_of_form common costs.low lows (slice_index_or (forms_of costs rows basis) k no_form) (suc k) ≡ pos common
  pub elsewhere : (k place : ℕ) → k < length costs.low → place ≤ length costs.low → place ≢ suc k →
      number_of_form common costs.low lows (slice_index_or (forms_of costs rows basis) k no_form) place ≡ pos 0
  pub lead : (k : ℕ) → k < length costs.low → LeadsPositive (map (λ ts. number_at ts (suc k)) lows)
  pub lines : AllZip (IsTableLine top common costs rows lows) (members_of_box costs (length rows)) table

-- the lines of a box and of rows at a basis, where the ranges aren't empty and the rows fit the box
pub record IsTableauOf (top : ℕ) (costs : CostBox) (rows : List Form) (basis : List Member) (table : List (List Fraction)) : Type 0 where
  pub box : IsBox (length costs.low) costs
  pub fit : All (FitsBox costs) rows
  pub unboxed : IsUnboxed top costs rows basis table

-- The line of a member's form at the starting basis: its value at the low corner, and its coefficients.
abbrev pub starting_line : CostBox → List Form → Member → List Fraction
starting_line costs rows member =
    let f = member_form (length costs.low) rows member in
    whole (value_for_costs f costs.low) ∷ map whole f.coefficients

-- What the lines of a solved table show: no constant is negative, or the form of a line can't be made non-negative.
abbrev pub IsShown : List Member → List (List Fraction) → Stage → Type 0
IsShown basis table Open = Unit {0}
IsShown basis table (Ended Feasible) = All (λ line. pos 0 ≤ℤ (entry line 0).numerator) table
IsShown basis table (Ended (Refuted form)) = (form < length table) × IsRefutingForm basis (slice_index_or table form [])
IsShown basis table (Stopped wide) = Unit {0}

-- the lines of a struct are the table of its box and its rows at its basis
abbrev pub IsTableau : Table → Type 0
IsTableau t = IsTableauOf t.top t.costs t.rows.items t.basis.items t.lines.items

-- the lines of a struct are those of its box and its rows at its basis; as while bounds move, ranges may be empty
abbrev pub IsUnboxedTable : Table → Type 0
IsUnboxedTable t = IsUnboxed t.top t.costs t.rows.items t.basis.items t.lines.items

-- the two lines in which a pivot works are as wide as the others
pub record HasRoom (t : Table) : Type 0 where
  pub few : length t.costs.low < 2 ^ 32
  pub quotients : length t.quotients ≡ suc (length t.costs.low)
  pub scratch : length t.scratch ≡ suc (length t.costs.low)

-- Until a step stops it, a tableau's lines are the table of its box and rows at its basis; they show what it found. At
-- all times its basis is one of the box and the rows, and its two work lines are as wide as the others.
pub record IsSound (t : Table) (stage : Stage) : Type 0 where
  pub tableau : IsGoing stage → IsTableau t
  pub shown : IsShown t.basis.items t.lines.items stage
  pub basis : IsBasis t.costs t.rows.items t.basis.items
  pub room : HasRoom t

-- what contracts see of a tableau with this table
abbrev pub held_of : Table → Stage → Held
held_of t stage = record { top = t.top; costs = t.costs; rows = t.rows.items; basis = t.basis.items; stage = stage }
