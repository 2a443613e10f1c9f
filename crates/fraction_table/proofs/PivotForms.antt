-- What the form that the search for the pivot form finds tells, and what it tells where there is none.
use Rattle.std.proofs.Common.{◌≡◌, ℕ, ◌+◌, ◌-◌, ◌<◌, ◌≤◌, sym, subst, List, [], length, arith, inl, inr}
use Rattle.std.specs.Prelude.{ℤ, pos, ◌<ℤ◌, ◌≤ℤ◌}
use Rattle.std.proofs.lemmas.Bool.{cases_lt}
use Rattle.std.proofs.lemmas.List.{get_or_default}
use Rattle.whole_numbers.specs.Fractions.{Fraction}
use Rattle.design_problem.specs.Basis.{entry}
use Rattle.design_problem.specs.declared.form.Form.{Form}
use Rattle.fraction_table.specs.declared.table.Table.{Table}
use Rattle.fraction_table.specs.Pivots.{AreHigh}
use Rattle.fraction_table.specs.PivotForms.{IsPivotForm, IsPivotLine, NoneNegative, row_constant, sign_at}
use Rattle.fraction_table.specs.PivotForms.IsPivotForm.{of_box, of_rows}
use Rattle.fraction_table.specs.ValidTables.{IsTableau}
use Rattle.fraction_table.proofs.Pivots.{lines_long}

-- its constant is negative
pub pivot_negative : (n : ℕ) (rows : List Form) (constant : ℕ → ℤ) (form : ℕ) → IsPivotForm n rows constant form → constant form <ℤ pos 0
pivot_negative n rows constant form (of_box among negative none) = negative
pivot_negative n rows constant form (of_rows row same none is) = subst (λ (k : ℕ). constant k <ℤ pos 0) (sym same) is.negative

-- it is one of the forms
pub pivot_among : (n : ℕ) (rows : List Form) (constant : ℕ → ℤ) (form : ℕ) → IsPivotForm n rows constant form → form < n + n + length rows
pivot_among n rows constant form (of_box among negative none) = omega (arith, among)
pivot_among n rows constant form (of_rows row same none is) = omega (arith, same, is.among)

-- its line is one of the table
pub pivot_line_in : (t : Table) → IsTableau t → (line : ℕ) → IsPivotLine t line → line < length t.lines.items
pivot_line_in t w line due = omega (arith, pivot_among (length t.costs.low) t.rows.items (sign_at t) line due, lines_long t w)

-- no constant is negative where none of the box is and none of a row
pub none_at_all : (n count : ℕ) (constant : ℕ → ℤ) → NoneNegative (n + n) constant → NoneNegative count (row_constant n constant) →
    NoneNegative (n + n + count) constant
none_at_all n count constant bounds news form form_in =
    elim (cases_lt form (n + n)) [
      | inl before ↦ bounds form before
      | inr behind ↦
          subst (λ (k : ℕ). pos 0 ≤ℤ constant k) (rest (n + n) form behind) (news (form - (n + n)) (omega (arith, form_in, behind)))
    ]
  where
    rest : (a b : ℕ) → a ≤ b → a + (b - a) ≡ b
    rest a b least = omega (arith, least)

-- then all lines are high
pub none_high : (t : Table) → IsTableau t → NoneNegative (length t.costs.low + length t.costs.low + length t.rows.items) (sign_at t) → AreHigh t
none_high t w none line d line_is =
    subst (λ (fs : List Fraction). pos 0 ≤ℤ (entry fs 0).numerator) (get_or_default t.lines.items line [] d line_is)
    (none line (omega (arith, line_is, lines_long t w)))
