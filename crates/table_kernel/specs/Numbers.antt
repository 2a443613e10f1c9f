-- Numbers of forms at the columns of a basis over one denominator, by those of x - low for each variable.
use Rattle.std.specs.Prelude.{ℕ, ◌/◌, List, ◌∷◌, ℤ, pos, ◌*ℤ◌, nat_abs, map, length}
use Rattle.whole_numbers.specs.Fractions.{Fraction, reduced}
use Rattle.design_problem.specs.declared.form.Form.{Form}
use Rattle.design_problem.specs.declared.boxes.CostBox.{CostBox}
use Rattle.design_problem.specs.declared.tree.Member.{Member}
use Rattle.design_problem.specs.Basis.{member_form}
use Rattle.fraction_table.specs.ValidTables.{members_of_box, numbers_of_form}
use Rattle.integer_pivots.specs.declared.line.Line.{Line}
use Rattle.integer_pivots.specs.Numbers.{product_sum}

-- the number of a form at a column, which has a number for each variable
abbrev pub number_at_column : Form → List ℤ → ℤ
number_at_column f column = product_sum f.coefficients column

-- how often a line's denominator goes into a multiple of it
abbrev pub share_of : ℕ → Line → ℕ
share_of D line = D / nat_abs line.denominator

-- a line over a multiple of its denominator: the constant, and then the numbers at the columns
abbrev pub scaled_line : ℕ → Line → List ℤ
scaled_line D line = map (λ z. z *ℤ pos (share_of D line)) (line.constant ∷ line.numbers)

-- a number over a denominator, in lowest terms
abbrev pub over_common : ℕ → ℤ → Fraction
over_common D m = reduced m D

-- the line of a member's form, in fractions
abbrev pub fraction_line : ℕ → CostBox → List Form → List (List ℤ) → Member → List Fraction
fraction_line D costs rows lows member =
    map (over_common D) (numbers_of_form (length costs.low) D costs.low lows (member_form (length costs.low) rows member))

-- the lines of all forms of a box and of rows
abbrev pub fraction_lines : ℕ → CostBox → List Form → List (List ℤ) → List (List Fraction)
fraction_lines D costs rows lows = map (fraction_line D costs rows lows) (members_of_box costs (length rows))
