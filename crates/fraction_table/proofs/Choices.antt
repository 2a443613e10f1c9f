-- The choice of a pivot's column: which of two columns comes first, and the steps that tell.
use Rattle.std.proofs.Common.{◌≡◌, ℕ, suc, ◌+◌, ◌<◌, sym, ◌∙◌, ap, subst, List, take, length, arith, inl, inr, Ordering, Equal, Greater, Less}
use Rattle.std.specs.Prelude.{ℤ, pos}
use Rattle.std.proofs.lemmas.Bool.{cases_eq}
use Rattle.std.proofs.lemmas.Int.{ints}
use Rattle.cost_base.specs.declared.StepName.TheVariants.{Div, Mul}
use Rattle.whole_numbers.specs.Fractions.{Fraction, divided}
use Rattle.whole_numbers.specs.Lists.{number_at}
use Rattle.wide_fraction.specs.declared.steps.Wide.{Wide}
use Rattle.design_problem.specs.Basis.{entry}
use Rattle.design_problem.specs.Steps.{IsPivot, IsTableStep, IsStepTooWide}
use Rattle.design_problem.specs.Steps.IsTableStep.{pivot_product}
use Rattle.fraction_table.specs.declared.table.Table.{Table}
use Rattle.fraction_lines.specs.TableLines.IsDivideStep.{quotient}
use Rattle.fraction_lines.specs.Entries.{IsPassing}
use Rattle.fraction_table.specs.Tableaus.{wide_at}
use Rattle.fraction_lines.specs.Turns.{IsQuotientStepOf}
use Rattle.fraction_lines.specs.Turns.IsQuotientStepOf.{dividing}
use Rattle.fraction_table.specs.ValidTables.{IsTableau}
use Rattle.fraction_table.specs.Pivots.{IsNotAfterInTable, LeadsNoNegative, entries_order, line_at, numbers_of_line, member_at, numbers_in_column, turned_column}
use Rattle.fraction_table.proofs.Pivots.{entry_number, form_line, line_long, quotients_wide, wide_step}
use Rattle.fraction_table.proofs.ColumnOrders.{AreCompared, AreLevel, less_first, other_first, stays_first}

positive_same : (z : ℤ) (a b : ℕ) → z ≡ pos a → z ≡ pos b → 0 < b → 0 < a
positive_same z a b first second positive = omega (arith, ints)

compared : (t : Table) (w : IsTableau t) (line column other a b : ℕ) → line < length t.lines.items →
    IsPivot t.basis.items (line_at t line) (suc column) → IsPivot t.basis.items (line_at t line) (suc other) →
    number_at (numbers_of_line t w line) (suc column) ≡ pos a → number_at (numbers_of_line t w line) (suc other) ≡ pos b →
    AreCompared t w line column other a b
compared t w line column other a b line_in pivot other_pivot at_column at_other =
    let first = entry_number t w line column line_in pivot in
    let second = entry_number t w line other line_in other_pivot in
    record {
      line_in = line_in;
      column_in = omega (arith, pivot.column, w.unboxed.count);
      other_in = omega (arith, other_pivot.column, w.unboxed.count);
      at_column = at_column;
      at_other = at_other;
      a_positive = positive_same (number_at (numbers_of_line t w line) (suc column)) a first.0 at_column first.1 first.2;
      b_positive = positive_same (number_at (numbers_of_line t w line) (suc other)) b second.0 at_other second.1 second.2;
    }

-- no difference leaves the column first
pub level_ordered : (t : Table) (line column other : ℕ) → line < length t.lines.items →
    IsPivot t.basis.items (line_at t line) (suc column) → IsPivot t.basis.items (line_at t line) (suc other) →
    AreLevel t line column other (length t.costs.low) → IsNotAfterInTable t line column other
level_ordered t line column other line_in pivot other_pivot level w a at_column =
    let second = entry_number t w line other line_in other_pivot in
    subst (λ z. LeadsNoNegative (turned_column a (numbers_in_column (suc other) w.unboxed.lows) z (numbers_in_column (suc column) w.unboxed.lows)))
    (sym second.1)
    (stays_first t w line column other a second.0 (compared t w line column other a second.0 line_in pivot other_pivot at_column second.1) level)

-- the first difference tells which one is
pub greater_ordered : (t : Table) (line column other v : ℕ) → line < length t.lines.items →
    IsPivot t.basis.items (line_at t line) (suc column) → IsPivot t.basis.items (line_at t line) (suc other) →
    v < length t.costs.low → AreLevel t line column other v →
    entries_order (line_at t v) column other
    (divided (entry (line_at t line) (suc other)) (entry (line_at t line) (suc column))) ≡ Greater →
    IsNotAfterInTable t line column other
greater_ordered t line column other v line_in pivot other_pivot v_in level greater w a at_column =
    let second = entry_number t w line other line_in other_pivot in
    subst (λ z. LeadsNoNegative (turned_column a (numbers_in_column (suc other) w.unboxed.lows) z (numbers_in_column (suc column) w.unboxed.lows)))
    (sym second.1)
    (less_first t w line column other a second.0 v (compared t w line column other a second.0 line_in pivot other_pivot at_column second.1) v_in level greater)

pub less_ordered : (t : Table) (line column other v : ℕ) → line < length t.lines.items →
    IsPivot t.basis.items (line_at t line) (suc column) → IsPivot t.basis.items (line_at t line) (suc other) →
    v < length t.costs.low → AreLevel t line column other v →
    entries_order (line_at t v) column other
    (divided (entry (line_at t line) (suc other)) (entry (line_at t line) (suc column))) ≡ Less →
    IsNotAfterInTable t line other column
less_ordered t line column other v line_in pivot other_pivot v_in level less w b at_other =
    let first = entry_number t w line column line_in pivot in
    subst (λ z. LeadsNoNegative (turned_column b (numbers_in_column (suc column) w.unboxed.lows) z (numbers_in_column (suc other) w.unboxed.lows)))
    (sym first.1)
    (other_first t w line column other first.0 b v (compared t w line column other first.0 b line_in pivot other_pivot first.1 at_other) v_in level less)

-- the steps of a comparison are steps of the basis
pub ratio_wide : (t : Table) (w : IsTableau t) (line column other : ℕ) (wide : Wide) → line < length t.lines.items →
    IsPivot t.basis.items (line_at t line) (suc column) → IsPivot t.basis.items (line_at t line) (suc other) →
    wide ≡ record {
      step = Div;
      left = entry (line_at t line) (suc other);
      right = entry (line_at t line) (suc column);
    } → IsPassing t.top wide →
    IsStepTooWide t.top t.costs t.rows.items (wide_at wide t.basis.items)
ratio_wide t w line column other wide line_in pivot other_pivot named passes =
    let es = line_at t line in
    let other_in : suc other < length es = omega (arith, line_long t w line line_in, other_pivot.column, w.unboxed.count) in
    quotients_wide t w line column line_in pivot wide (
      subst (λ (s : Wide). IsQuotientStepOf es (suc column) s.step s.left s.right) (sym named)
          (dividing Div (entry es (suc other)) (entry es (suc column)) (quotient (suc other) other_in)),
      passes,
    )

pub multiple_wide : (t : Table) (w : IsTableau t) (line column other u : ℕ) (q : Fraction) (wide : Wide) →
    line < length t.lines.items → IsPivot t.basis.items (line_at t line) (suc column) →
    IsPivot t.basis.items (line_at t line) (suc other) → u < length t.lines.items →
    q ≡ divided (entry (line_at t line) (suc other)) (entry (line_at t line) (suc column)) →
    wide ≡ record { step = Mul; left = entry (line_at t u) (suc column); right = q } → IsPassing t.top wide →
    IsStepTooWide t.top t.costs t.rows.items (wide_at wide t.basis.items)
multiple_wide t w line column other u q wide line_in pivot other_pivot u_in q_is named passes =
    let l = form_line t w line line_in in
    let m = form_line t w u u_in in
    wide_step t w wide
    (subst (λ (s : Wide). IsTableStep t.costs t.rows.items t.basis.items (take (length t.costs.low) t.lines.items) s.step
    s.left s.right) (sym (named
    ∙ ap (λ (p : Fraction). record { step = Mul; left = entry (line_at t u) (suc column); right = p }) q_is))
    (pivot_product (member_at t line) (member_at t u) (line_at t line) (line_at t u) (suc column)
    (suc other) l.form l.entries pivot m.form m.entries (omega (arith, other_pivot.column))))
    passes

-- what a comparison of two entries found
pub found_order : (t : Table) (line place column other : ℕ) (row fs : List Fraction) (q : Fraction) (o r : Ordering) →
    row ≡ line_at t line → fs ≡ line_at t place → q ≡ divided (entry row (suc other)) (entry row (suc column)) →
    o ≡ entries_order fs column other q → o ≡ r →
    entries_order (line_at t place) column other
    (divided (entry (line_at t line) (suc other)) (entry (line_at t line) (suc column))) ≡ r
found_order t line place column other row fs q o r row_is fs_are q_is o_is is =
    sym (o_is
    ∙ ap (λ (gs : List Fraction). entries_order gs column other q) fs_are
    ∙ ap (λ (p : Fraction). entries_order (line_at t place) column other p)
    (q_is ∙ ap (λ (gs : List Fraction). divided (entry gs (suc other)) (entry gs (suc column))) row_is))
    ∙ is

-- one more line shows no difference
pub level_more : (t : Table) (line column other v : ℕ) → AreLevel t line column other v →
    entries_order (line_at t v) column other
    (divided (entry (line_at t line) (suc other)) (entry (line_at t line) (suc column))) ≡ Equal →
    AreLevel t line column other (v + 1)
level_more t line column other v level here u u_in =
    elim (cases_eq u v) [
      | inl same ↦ ap (λ (k : ℕ). entries_order (line_at t k) column other
          (divided (entry (line_at t line) (suc other)) (entry (line_at t line) (suc column)))) same ∙ here
      | inr apart ↦ level u (omega (arith, u_in, apart))
    ]
