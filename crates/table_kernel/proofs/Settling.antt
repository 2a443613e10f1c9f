-- What the constants and a line of a kernel show of the table that it stands for.
use Rattle.std.proofs.Common.{◌≡◌, ℕ, zero, suc, ◌+◌, ◌<◌, ◌≤◌, sym, ◌∙◌, ap, subst, length, arith}
use Rattle.std.specs.Prelude.{ℤ, None, pos, ◌*ℤ◌, ◌<ℤ◌, ◌≤ℤ◌, nat_abs, All}
use Rattle.cost_base.proofs.ListLemmas.{get_or-map-numbers_from}
use Rattle.whole_numbers.specs.Fractions.{StandsFor}
use Rattle.whole_numbers.specs.Lists.{number_at}
use Rattle.whole_numbers.proofs.Sizes.{positive_is, size_positive}
use Rattle.design_problem.specs.Basis.{entry}
use Rattle.design_problem.specs.Steps.{IsRefutingForm}
use Rattle.fraction_table.specs.PivotForms.{NoneNegative, sign_at}
use Rattle.fraction_table.specs.Pivots.{line_at}
use Rattle.fraction_table.specs.ValidTables.{number_of_form}
use Rattle.fraction_lines.proofs.TableLineLaws.{number_at as number_there}
use Rattle.fraction_table.proofs.PivotForms.{none_high, pivot_among, pivot_negative}
use Rattle.fraction_table.proofs.Pivots.{line_long, lines_long, members_long, whole_line}
use Rattle.fraction_table.proofs.Solutions.{high_number, low_number, negative_number}
use Rattle.fraction_table.proofs.IntegralTurns.{stand_at}
use Rattle.fraction_table.proofs.theory.TurnedNumbers.{numbers_at, numbers_long}
use Rattle.table_kernel.specs.declared.kernel.Kernel.{Kernel}
use Rattle.table_kernel.specs.Kernels.{IsBounded, IsKernel, stated, width_of}
use Rattle.table_kernel.specs.Numbers.{number_at_column}
use Rattle.table_kernel.specs.Lines.{IsBestColumn, IsEntering, IsPivotPlace, column_of, form_of_place, numbers_of_place}
use Rattle.table_kernel.proofs.Columns.{column_number}

-- a line's entry has the sign of its number
module _ (k : Kernel) (m : IsKernel k) (place : ℕ) (place_in : place < length k.constants.items) where
  abbrev here : ℕ → ℤ
  here j = number_of_form m.tableau.unboxed.common k.table.costs.low m.tableau.unboxed.lows (form_of_place k place) j

  pub line_in : place < length (stated k).lines.items
  line_in = omega (arith, place_in, m.shaped.constants, members_long k.table.costs (length k.table.rows.items), lines_long (stated k) m.tableau)

  entry_stands : (j : ℕ) → j < suc (width_of k) → StandsFor (entry (line_at (stated k) place) j) (here j) m.tableau.unboxed.common
  entry_stands j j_in =
      let t = stated k in
      let w = m.tableau in
      let l = whole_line t w place line_in in
      subst (λ z. StandsFor (entry (line_at t place) j) z w.unboxed.common)
      (numbers_at (width_of k) w.unboxed.common t.costs.low w.unboxed.lows (form_of_place k place) j j_in)
      (stand_at w.unboxed.common (line_at t place) _ j l.stand
      (omega (
        arith,
        numbers_long (width_of k) w.unboxed.common t.costs.low w.unboxed.lows
            (form_of_place k place),
        j_in,
      )))

  entry_over : (j : ℕ) → j < suc (width_of k) → 0 < (entry (line_at (stated k) place) j).denominator
  entry_over j j_in =
      let l = whole_line (stated k) m.tableau place line_in in
      (number_there (stated k).top (line_at (stated k) place) j l.numbers (omega (arith, line_long (stated k) m.tableau place line_in, j_in))).lowest.positive

  pub entry_below : number_at k.constants.items place <ℤ pos 0 → (entry (line_at (stated k) place) 0).numerator <ℤ pos 0
  entry_below below =
      negative_number (here 0) (entry (line_at (stated k) place) 0).numerator m.tableau.unboxed.common (entry (line_at (stated k) place) 0).denominator
      m.tableau.unboxed.positive (entry_over 0 (omega arith)) (sym (entry_stands 0 (omega arith)))
      (subst (λ z. z <ℤ pos 0) (m.numbers.constants place place_in) below)

  pub entry_high : pos 0 ≤ℤ number_at k.constants.items place → pos 0 ≤ℤ (entry (line_at (stated k) place) 0).numerator
  entry_high high =
      high_number (here 0) (entry (line_at (stated k) place) 0).numerator m.tableau.unboxed.common (entry (line_at (stated k) place) 0).denominator
      m.tableau.unboxed.positive (entry_over 0 (omega arith)) (sym (entry_stands 0 (omega arith)))
      (subst (λ z. pos 0 ≤ℤ z) (m.numbers.constants place place_in) high)

  column_here : (c : ℕ) → c < width_of k → number_at (numbers_of_place k place) c ≡ here (suc c)
  column_here c c_in =
      get_or-map-numbers_from (λ column. number_at_column (form_of_place k place) (column_of k column)) 0 (width_of k) c (pos 0) c_in
      ∙ ap (λ (j : ℕ). number_at_column (form_of_place k place) (column_of k j)) (from_none c)
      ∙ sym (column_number k m.tableau.unboxed.common k.table.costs.low (form_of_place k place) c)
      ∙ ap (λ lows. number_of_form m.tableau.unboxed.common k.table.costs.low lows (form_of_place k place) (suc c)) (sym m.numbers.lows)
    where
      from_none : (n : ℕ) → 0 + n ≡ n
      from_none n = omega arith

  entry_low : (c : ℕ) → c < width_of k → number_at (numbers_of_place k place) c ≤ℤ pos 0 → (entry (line_at (stated k) place) (suc c)).numerator ≤ℤ pos 0
  entry_low c c_in low =
      low_number (here (suc c)) (entry (line_at (stated k) place) (suc c)).numerator m.tableau.unboxed.common
      (entry (line_at (stated k) place) (suc c)).denominator
      m.tableau.unboxed.positive (entry_over (suc c) (omega (arith, c_in))) (sym (entry_stands (suc c) (omega (arith, c_in))))
      (subst (λ z. z ≤ℤ pos 0) (column_here c c_in) low)

  -- a line that is positive at no column is a refuting one, where its constant is negative
  pub line_refuting : number_at k.constants.items place <ℤ pos 0 →
      ((c : ℕ) → c < width_of k → number_at (numbers_of_place k place) c ≤ℤ pos 0) →
      IsRefutingForm (stated k).basis.items (line_at (stated k) place)
  line_refuting below low = record { below = entry_below below; none_above = none }
    where
      none : (j : ℕ) → 1 ≤ j → j ≤ length (stated k).basis.items → (entry (line_at (stated k) place) j).numerator ≤ℤ pos 0
      none zero some j_in = absurd (omega arith)
      none (suc c) some j_in =
          let c_in : c < width_of k = omega (arith, j_in, m.tableau.unboxed.count) in
          entry_low c c_in (low c c_in)

-- where no constant is negative, no line's is
pub lines_high : (k : Kernel) → IsKernel k → NoneNegative (width_of k + width_of k + length k.table.rows.items) (number_at k.constants.items) →
    All (λ line. pos 0 ≤ℤ (entry line 0).numerator) (stated k).lines.items
lines_high k m none = none_high (stated k) m.tableau high
  where
    high : NoneNegative (width_of k + width_of k + length k.table.rows.items) (sign_at (stated k))
    high place place_in =
        entry_high k m place (omega (arith, place_in, m.shaped.constants, members_long k.table.costs (length k.table.rows.items))) (none place place_in)

-- the pivot form is one of the kernel's
pub pivot_place_in : (k : Kernel) → IsKernel k → (place : ℕ) → IsPivotPlace k place → place < length k.constants.items
pivot_place_in k m place due =
    omega (
      arith,
      pivot_among (width_of k) k.table.rows.items (number_at k.constants.items) place due,
      m.shaped.constants,
      members_long k.table.costs (length k.table.rows.items),
    )

-- its constant is negative
pub pivot_place_below : (k : Kernel) (place : ℕ) → IsPivotPlace k place → number_at k.constants.items place <ℤ pos 0
pivot_place_below k place due = pivot_negative (width_of k) k.table.rows.items (number_at k.constants.items) place due

-- the entering line is positive at no column: then neither is the form of its place
pub none_positive : (k : Kernel) (place : ℕ) → IsBounded k → IsEntering k place → IsBestColumn k None → (c : ℕ) → c < width_of k →
    number_at (numbers_of_place k place) c ≤ℤ pos 0
none_positive k place b e best c c_in =
    let z = number_at k.entering.numbers c in
    let n = number_at (numbers_of_place k place) c in
    let common_is = positive_is k.common b.positive in
    let denominator_is = positive_is k.entering.denominator e.stands.positive in
    low_number z n (nat_abs k.entering.denominator) (nat_abs k.common) (size_positive k.entering.denominator e.stands.positive)
    (size_positive k.common b.positive)
    (ap (λ (D : ℤ). z *ℤ D) (sym common_is) ∙ e.stands.numbers c c_in ∙ ap (λ (D : ℤ). n *ℤ D) denominator_is)
    (best c c_in)
