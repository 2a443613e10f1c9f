-- Marks of columns: a bit of 128 for each column, shared by those that are equal up to a multiple of 128, and one
-- shared by neighbours.
use Rattle.std.specs.Prelude.{◌≢◌, ℕ, ◌/◌, ◌%◌, List, All}
use Rattle.std.specs.Int.{bit_at}
use Rattle.whole_numbers.specs.Fractions.{Fraction}
use Rattle.fraction_lines.specs.declared.marks.Marks.{Marks}

-- the bit of a number is set; numbers that are equal modulo 128 share it
abbrev pub IsSet : ℕ → ℕ → Type 0
IsSet bits number = bit_at bits (number % 128) ≢ 0

-- a column's two marks are set
abbrev pub IsColumnMarked : Marks → ℕ → Type 0
IsColumnMarked marks column = IsSet marks.near column × IsSet marks.far (column / 5)

-- each column of the list has its marks
abbrev pub AllMarked : Marks → List (ℕ × Fraction) → Type 0
AllMarked marks es = All (λ e. IsColumnMarked marks e.0) es
