-- The best column so far, as one more column is looked at.
use Rattle.std.proofs.Common.{◌≡◌, ℕ, suc, ◌+◌, ◌<◌, sym, subst, length, arith, inl, inr}
use Rattle.std.specs.Prelude.{ℤ, pos, ◌<ℤ◌, Some}
use Rattle.std.proofs.lemmas.Bool.{cases_eq}
use Rattle.std.proofs.lemmas.Int.{ints}
use Rattle.whole_numbers.specs.Lists.{number_at}
use Rattle.design_problem.specs.Basis.{entry, member_form}
use Rattle.design_problem.specs.Steps.{IsPivot}
use Rattle.fraction_table.specs.declared.table.Table.{Table}
use Rattle.fraction_table.specs.ValidTables.{IsTableau}
use Rattle.fraction_table.specs.Pivots.{IsBestBelow, IsLeastIn, IsNotAfterInTable, line_at, numbers_of_line, member_at}
use Rattle.fraction_lines.proofs.TableLineLaws.{number_at as number_there}
use Rattle.fraction_table.proofs.theory.TurnedNumbers.{numbers_long}
use Rattle.fraction_table.proofs.IntegralTurns.{stand_at}
use Rattle.fraction_table.proofs.Pivots.{line_long, positive_number, whole_line}
use Rattle.fraction_table.proofs.Transitive.{not_after_chain}

-- a column with a positive entry in a line with a negative constant is a pivot
pub pivot_there : (t : Table) (w : IsTableau t) (line k : ℕ) → (entry (line_at t line) 0).numerator <ℤ pos 0 →
    k < length t.costs.low → pos 0 <ℤ (entry (line_at t line) (suc k)).numerator →
    IsPivot t.basis.items (line_at t line) (suc k)
pivot_there t w line k below k_in above =
    record { column = (omega arith, omega (arith, w.unboxed.count, k_in)); below = below; above = above }

-- the best so far gives way, where the new column comes before it
pub best_changes : (t : Table) (w : IsTableau t) (line best column : ℕ) → line < length t.lines.items →
    column < length t.costs.low → IsPivot t.basis.items (line_at t line) (suc column) →
    IsBestBelow t line column (Some best) → IsNotAfterInTable t line column best →
    IsBestBelow t line (column + 1) (Some column)
best_changes t w line best column line_in column_in pivot so_far ordered = (
  pivot,
  λ k k_in other positive.
      elim (cases_eq k best) [
        | inl same ↦ subst (λ (m : ℕ). IsNotAfterInTable t line column m) (sym same) ordered
        | inr apart ↦
            not_after_chain t line column best k line_in so_far.0 (pivot_there t w line k pivot.below (omega (arith, k_in, column_in)) positive) ordered
            (so_far.1 k (omega (arith, k_in, other)) apart positive)
      ],
)

-- the best of all columns is the least
pub best_least : (t : Table) (line column : ℕ) → line < length t.lines.items → IsBestBelow t line (length t.costs.low) (Some column) → IsLeastIn t line column
best_least t line column line_in best w k k_in other a at_column above =
    best.1 k k_in other (entry_above w k k_in above) w a at_column
  where
    positive : (z : ℤ) (n : ℕ) → z ≡ pos n → 0 < n → pos 0 <ℤ z
    positive z n is n_positive = omega (arith, ints)

    entry_above : (w : IsTableau t) (k : ℕ) → k < length t.costs.low →
        pos 0 <ℤ number_at (numbers_of_line t w line) (suc k) → pos 0 <ℤ (entry (line_at t line) (suc k)).numerator
    entry_above w k k_in above =
        let l = whole_line t w line line_in in
        let long = line_long t w line line_in in
        let here = number_there t.top (line_at t line) (suc k) l.numbers (omega (arith, long, k_in)) in
        let stands = stand_at w.unboxed.common (line_at t line) (numbers_of_line t w line) (suc k) l.stand
        (omega (
          arith,
          numbers_long (length t.costs.low) w.unboxed.common t.costs.low w.unboxed.lows
              (member_form (length t.costs.low) t.rows.items (member_at t line)),
          k_in,
        )) in
        let found = positive_number (number_at (numbers_of_line t w line) (suc k))
        (entry (line_at t line) (suc k)).numerator w.unboxed.common (entry (line_at t line) (suc k)).denominator
        w.unboxed.positive here.lowest.positive (sym stands) above in
        positive (entry (line_at t line) (suc k)).numerator found.0 found.1 found.2
