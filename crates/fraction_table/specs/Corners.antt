-- The corner of a table, which is the least point of its box that meets its rows. No public clause cites it.
use Rattle.std.specs.Prelude.{ℕ, ◌+◌, ◌*◌, ◌/◌, List, nat_abs, length, take, slice_index}
use Rattle.whole_numbers.specs.Fractions.{Fraction}
use Rattle.design_problem.specs.Basis.{entry}
use Rattle.design_problem.specs.Steps.{corner_denominators}
use Rattle.fraction_table.specs.declared.table.Table.{Table}
use Rattle.fraction_table.specs.Pivots.{line_at}

-- the constant of the form x - low of a variable in a table
abbrev pub constant_at : Table → ℕ → Fraction
constant_at t var = entry (line_at t var) 0

-- the denominators of the constants of x - low for each variable of a table, in order
abbrev pub denominators_of : Table → List ℕ
denominators_of t = corner_denominators (take (length t.costs.low) t.lines.items)

-- a low bound plus a constant that is at least 0, times a scale that the constant's denominator divides
abbrev pub raised_by : ℕ → Fraction → ℕ → ℕ
raised_by low constant scale = low * scale + nat_abs constant.numerator * (scale / constant.denominator)

-- the value of a variable at the corner, times the scale
abbrev pub corner_entry : Table → ℕ → ℕ → ℕ
corner_entry t scale var = raised_by (slice_index t.costs.low var) (constant_at t var) scale
