-- Each half that is left out lacks the column.
use Rattle.std.proofs.Common.{ℕ, ◌<◌, ◌≤◌, ◌/◌, List, length, subst, drop, arith}
use Rattle.whole_numbers.specs.Fractions.{Fraction}
use Rattle.fraction_lines.specs.Entries.{head_column}
use Rattle.fraction_lines.proofs.Columns.{drop_rises, take_rises}
use Rattle.fraction_lines.proofs.HalvedPlaces.{before_without, first_half, half_begins, head_without, second_half}
use Rattle.fraction_lines.proofs.entries.halved.Goals as goal

pub halves-init : goal.halves-init
halves-init c = record { half = half_begins c.args.entries.now c.args.column; rising = c.requires }

pub halves-preserved-then-column-next_column : goal.halves-preserved-then-column-next_column
halves-preserved-then-column-next_column c =
    let left = c.halves.left.now in
    let column = c.args.column in
    let m = length left / 2 in
    let rising = c.halves.invariant.rising in
    let ahead : column < head_column (drop m left) column =
    subst (λ (es : List (ℕ × Fraction)). column < head_column es column) c.split_at.ensures.back
    (subst (λ (n : ℕ). column < n) c.next_column.ensures c.if-column-next_column.true) in
    rw c.split_at.ensures.front
    (record {
      half = first_half c.args.entries.now column c.halves.place left m c.halves.invariant.half
          (head_without 0 rising.0 column column (drop m left) (drop_rises 0 rising.0 m left rising.1) ahead);
      rising = (rising.0, take_rises 0 rising.0 m left rising.1);
    })

pub halves-preserved : goal.halves-preserved
halves-preserved c =
    let left = c.halves.left.now in
    let column = c.args.column in
    let m = length left / 2 in
    let m_in : m < length left = omega arith in
    let rising = c.halves.invariant.rising in
    let reached : head_column (drop m left) column ≤ column =
    subst (λ (es : List (ℕ × Fraction)). head_column es column ≤ column) c.split_at.ensures.back
    (subst (λ (n : ℕ). n ≤ column) c.next_column.ensures c.if-column-next_column.false) in
    rw c.split_at.ensures.back
    (record {
      half = second_half c.args.entries.now column c.halves.place left m c.halves.invariant.half m_in
          (before_without 0 rising.0 column m column left rising.1 m_in reached);
      rising = (rising.0, drop_rises 0 rising.0 m left rising.1);
    })

pub returns-clause-few : goal.returns-clause-few
returns-clause-few c = omega (arith, c.halves-test.false)
