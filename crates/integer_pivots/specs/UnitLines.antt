-- The lines of the forms x - low at the basis of these forms.
use Rattle.std.specs.Prelude.{ℕ, pos}
use Rattle.design_problem.specs.Basis.{unit}
use Rattle.integer_pivots.specs.declared.line.Line.{Line}

-- the line of x - low for a variable at the basis of these forms: 1 in its own column
abbrev pub unit_line_of : ℕ → ℕ → Line
unit_line_of width var = record { denominator = pos 1; constant = pos 0; numbers = unit width var (pos 1); reach = pos 1 }
