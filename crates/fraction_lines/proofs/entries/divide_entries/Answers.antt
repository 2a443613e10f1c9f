-- Each turn divides the fraction of the next column.
use Rattle.std.proofs.Common.{◌≡◌, ℕ, ◌∙◌, [], ap, refl, subst, arith, min}
use Rattle.std.proofs.lemmas.Result.{err_from_is_err_and}
use Rattle.whole_numbers.specs.Fractions.{Fraction, divided}
use Rattle.wide_fraction.specs.declared.steps.Wide.{Wide}
use Rattle.fraction_lines.specs.TableLines.{fraction_at, nothing}
use Rattle.fraction_lines.specs.Entries.{IsQuotientStep, divided_at, head_column}
use Rattle.fraction_lines.proofs.ZeroFractions.{nothing_number, nothing_divided}
use Rattle.fraction_lines.proofs.Columns.{test_cases, head_number, after_numbers, put_numbers}
use Rattle.fraction_lines.proofs.Crossings.{crossing_turns, crossing_ends, made_rise, made_short, heads_at}
use Rattle.fraction_lines.proofs.entries.divide_entries.Goals as goal

keeps : (left_out : ℕ) (divisor : Fraction) (k : ℕ) → divided_at left_out divisor k nothing nothing ≡ nothing
keeps left_out divisor k =
    test_cases (λ q. q ≡ nothing) k left_out nothing (divided nothing divisor) (λ same. refl) (λ other. nothing_divided divisor)

pub returns-then-width-column-clause-made : goal.returns-then-width-column-clause-made
returns-then-width-column-clause-made c =
    let ended : c.args.extent.width ≡ min (head_column c.columns.left.now c.args.extent.width) c.args.extent.width = omega (arith, c.next_column-column.ensures)
    in
    crossing_ends c.args.extent.width (divided_at c.args.left_out c.args.divisor) c.args.olds.now [] c.columns.left.now [] c.columns.made.items
    c.args.extent.width (keeps c.args.left_out c.args.divisor) c.columns.invariant.crossing ended (omega arith)

pub returns-then-width-column-clause-entries : goal.returns-then-width-column-clause-entries
returns-then-width-column-clause-entries c = record {
  entries = record {
    rises = made_rise c.args.extent.width (divided_at c.args.left_out c.args.divisor) c.args.olds.now [] c.columns.left.now
        [] c.columns.made.items c.columns.invariant.crossing;
    numbers = c.columns.invariant.made;
  };
  room = c.columns.invariant.room;
}

pub quotient_at-requires-clause-value : goal.quotient_at-requires-clause-value
quotient_at-requires-clause-value c =
    rw c.take_at-value.ensures.fraction
    (head_number c.args.extent.top c.columns.left.now c.next_column-column.result
    (nothing_number c.args.extent.top c.args.divisor c.requires.divisor) c.columns.invariant.olds)

pub returns-in_err-quotient-clause-entries : goal.returns-in_err-quotient-clause-entries
returns-in_err-quotient-clause-entries c = record {
  entries = record {
    rises = made_rise c.args.extent.width (divided_at c.args.left_out c.args.divisor) c.args.olds.now [] c.columns.left.now
        [] c.columns.made.items c.columns.invariant.crossing;
    numbers = c.columns.invariant.made;
  };
  room = c.columns.invariant.room;
}

seen_step : (value first divisor : Fraction) (wide : Wide) → value ≡ first → IsQuotientStep value divisor wide → IsQuotientStep first divisor wide
seen_step value first divisor wide value_is step = subst (λ (q : Fraction). IsQuotientStep q divisor wide) value_is step

pub returns-in_err-quotient-clause-wide : goal.returns-in_err-quotient-clause-wide
returns-in_err-quotient-clause-wide c =
    let p = err_from_is_err_and c.from_residual.result c.from_residual.ensures.1 in
    let column = c.next_column-column.result in
    let next : column ≡ min (head_column c.columns.left.now c.args.extent.width) c.args.extent.width = omega (arith, c.next_column-column.ensures) in
    let heads = heads_at c.args.extent.width (divided_at c.args.left_out c.args.divisor) c.args.olds.now [] c.columns.left.now
    [] c.columns.made.items column c.columns.invariant.crossing next in
    rw (p.1, p.2)
    (record {
      column = column;
      within = c.if-width-column.false;
      step = seen_step c.take_at-value.result.0 (fraction_at c.args.olds.now column) c.args.divisor c.in_err-quotient.field-0.0
          (c.take_at-value.ensures.fraction ∙ heads.0) c.in_err-quotient.ensures.step;
      passes = c.in_err-quotient.ensures.passes;
    })

pub put_entry-requires : goal.put_entry-requires
put_entry-requires c =
    let column = c.next_column-column.result in
    let next : column ≡ min (head_column c.columns.left.now c.args.extent.width) c.args.extent.width = omega (arith, c.next_column-column.ensures) in
    let short = made_short c.args.extent.width (divided_at c.args.left_out c.args.divisor) c.args.olds.now []
    c.columns.left.now [] c.columns.made.items column c.columns.invariant.crossing next c.if-width-column.false in
    record { room = omega (arith, c.columns.made.ok.0, c.columns.invariant.room) }

pub columns-preserved : goal.columns-preserved
columns-preserved c =
    let column = c.next_column-column.result in
    let next : column ≡ min (head_column c.columns.left.now c.args.extent.width) c.args.extent.width = omega (arith, c.next_column-column.ensures) in
    let value_is = c.in_ok-quotient.ensures.exact
    ∙ ap (λ (q : Fraction). divided_at c.args.left_out c.args.divisor column q nothing)
    c.take_at-value.ensures.fraction in
    let turned =
    crossing_turns c.args.extent.width (divided_at c.args.left_out c.args.divisor) c.args.olds.now [] c.columns.left.now []
    c.columns.made.items c.put_entry.new.entries.items
    column c.in_ok-quotient.quotient (keeps c.args.left_out c.args.divisor) c.in_ok-quotient.ensures.number.lowest
    c.columns.invariant.crossing next c.if-width-column.false value_is c.put_entry.ensures.put in
    rw c.take_at-value.ensures.rest
    (record {
      crossing = turned;
      olds = after_numbers c.args.extent.top c.columns.left.now column c.columns.invariant.olds;
      made = put_numbers c.args.extent.top column c.in_ok-quotient.quotient c.columns.made.items c.put_entry.new.entries.items
          c.columns.invariant.made c.in_ok-quotient.ensures.number c.put_entry.ensures.put;
      room = omega (arith, c.put_entry.ensures.capacity, c.columns.invariant.room);
    })
