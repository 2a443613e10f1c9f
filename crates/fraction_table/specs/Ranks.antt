-- A number that rises with each pivot.
use Rattle.std.specs.Prelude.{ℕ, suc, ◌+◌, ◌*◌, ◌/◌, ◌^◌, List, [], ◌∷◌, pos, ◌+ℤ◌, nat_abs, map, length, take}
use Rattle.whole_numbers.specs.Fractions.{Fraction}
use Rattle.design_problem.specs.Basis.{entry}
use Rattle.fraction_table.specs.declared.table.Table.{Table}

-- the height of a/b, a being a natural number
abbrev pub height : ℕ → ℕ → ℕ → ℕ
height top a b = (a * (top * top)) / b

-- the height of a fraction within the top, raised so far that it can't be negative
abbrev pub raised_height : ℕ → Fraction → ℕ
raised_height top q = height top (nat_abs (q.numerator +ℤ pos (top * q.denominator))) q.denominator

-- more than the height of any fraction within the top
abbrev pub past_heights : ℕ → ℕ
past_heights top = suc ((top + top * top) * (top * top))

-- the number whose digits in a base are those of a list
abbrev pub digits_number : ℕ → List ℕ → ℕ
digits_number base [] = 0
digits_number base (x ∷ xs) = x * base ^ length xs + digits_number base xs

-- the heights of the constants of the first lines
abbrev pub heights : ℕ → ℕ → List (List Fraction) → List ℕ
heights top count lines = map (λ line. raised_height top (entry line 0)) (take count lines)

-- the heights of the constants of x - low for each variable, in order, as the digits of one number
abbrev pub rank : Table → ℕ
rank t = digits_number (past_heights t.top) (heights t.top (length t.costs.low) t.lines.items)
