-- Each turn crosses the two lists at their next column.
use Rattle.std.proofs.Common.{◌≡◌, ℕ, ◌<◌, ◌∙◌, List, ap, sym, subst, arith}
use Rattle.std.proofs.lemmas.Result.{err_from_is_err_and}
use Rattle.whole_numbers.specs.Fractions.{Fraction, IsLowest, minus, times}
use Rattle.wide_fraction.specs.declared.steps.Wide.{Wide}
use Rattle.fraction_lines.specs.TableLines.{IsTableNumber, fraction_at, nothing}
use Rattle.fraction_lines.specs.Entries.{IsTermStep, after_column, crossed_at, head_column, head_fraction}
use Rattle.fraction_lines.proofs.ZeroFractions.{nothing_lowest, nothing_number, crossed_nothing}
use Rattle.fraction_lines.proofs.Columns.{ahead_nothing, ahead_same, head_number, after_numbers, put_numbers}
use Rattle.fraction_lines.proofs.Crossings.{Crossing, crossing_turns, crossing_ends, made_rise, made_short, heads_at}
use Rattle.fraction_lines.proofs.entries.cross_entries.Goals as goal

keeps : (factor : Fraction) → 0 < factor.denominator → (k : ℕ) → crossed_at factor k nothing nothing ≡ nothing
keeps factor positive k = crossed_nothing nothing factor nothing_lowest positive

pub returns-then-width-column-clause-made : goal.returns-then-width-column-clause-made
returns-then-width-column-clause-made c =
    crossing_ends c.args.extent.width (crossed_at c.args.factor) c.args.olds.now c.args.quotients.now c.columns.olds_left.now
    c.columns.quotients_left.now c.columns.made.items
    c.next_of-column.result (keeps c.args.factor c.requires.factor.lowest.positive) c.columns.invariant.crossing c.next_of-column.ensures c.if-width-column.true

pub returns-then-width-column-clause-entries : goal.returns-then-width-column-clause-entries
returns-then-width-column-clause-entries c = record {
  entries = record {
    rises = made_rise c.args.extent.width (crossed_at c.args.factor) c.args.olds.now c.args.quotients.now
        c.columns.olds_left.now c.columns.quotients_left.now c.columns.made.items c.columns.invariant.crossing;
    numbers = c.columns.invariant.made;
  };
  room = c.columns.invariant.room;
}

pub crossed-requires-clause-old : goal.crossed-requires-clause-old
crossed-requires-clause-old c =
    subst (IsTableNumber c.args.extent.top) (sym c.take_at-old.ensures.fraction)
    (head_number c.args.extent.top c.columns.olds_left.now c.next_of-column.result
    (nothing_number c.args.extent.top c.args.factor c.requires.factor) c.columns.invariant.olds)

pub crossed-requires-clause-quotient : goal.crossed-requires-clause-quotient
crossed-requires-clause-quotient c =
    subst (IsTableNumber c.args.extent.top) (sym c.take_at-quotient.ensures.fraction)
    (head_number c.args.extent.top c.columns.quotients_left.now c.next_of-column.result
    (nothing_number c.args.extent.top c.args.factor c.requires.factor) c.columns.invariant.quotients)

pub returns-in_err-value-clause-entries : goal.returns-in_err-value-clause-entries
returns-in_err-value-clause-entries c = record {
  entries = record {
    rises = made_rise c.args.extent.width (crossed_at c.args.factor) c.args.olds.now c.args.quotients.now
        c.columns.olds_left.now c.columns.quotients_left.now c.columns.made.items c.columns.invariant.crossing;
    numbers = c.columns.invariant.made;
  };
  room = c.columns.invariant.room;
}

seen_step : (old quotient first second factor : Fraction) (wide : Wide) → old ≡ first → quotient ≡ second →
    IsTermStep old factor quotient wide → IsTermStep first factor second wide
seen_step old quotient first second factor wide old_is quotient_is step =
    subst (λ (q : Fraction). IsTermStep first factor q wide) quotient_is (subst (λ (q : Fraction). IsTermStep q factor quotient wide) old_is step)

pub returns-in_err-value-clause-wide : goal.returns-in_err-value-clause-wide
returns-in_err-value-clause-wide c =
    let p = err_from_is_err_and c.from_residual.result c.from_residual.ensures.1 in
    let heads = heads_at c.args.extent.width (crossed_at c.args.factor) c.args.olds.now c.args.quotients.now
    c.columns.olds_left.now c.columns.quotients_left.now c.columns.made.items c.next_of-column.result
    c.columns.invariant.crossing c.next_of-column.ensures in
    rw (p.1, p.2)
    (record {
      column = c.next_of-column.result;
      within = c.if-width-column.false;
      step = seen_step c.take_at-old.result.0 c.take_at-quotient.result.0 (fraction_at c.args.olds.now c.next_of-column.result)
          (fraction_at c.args.quotients.now c.next_of-column.result) c.args.factor c.in_err-value.field-0.0
          (c.take_at-old.ensures.fraction ∙ heads.0) (c.take_at-quotient.ensures.fraction ∙ heads.1) c.in_err-value.ensures.step;
      passes = c.in_err-value.ensures.passes;
    })

pub put_entry-requires : goal.put_entry-requires
put_entry-requires c =
    let short = made_short c.args.extent.width (crossed_at c.args.factor) c.args.olds.now c.args.quotients.now
    c.columns.olds_left.now c.columns.quotients_left.now c.columns.made.items c.next_of-column.result
    c.columns.invariant.crossing c.next_of-column.ensures c.if-width-column.false in
    record { room = omega (arith, c.columns.made.ok.0, c.columns.invariant.room) }

pub put_entry-requires-else-column-next_column : goal.put_entry-requires-else-column-next_column
put_entry-requires-else-column-next_column c =
    let short = made_short c.args.extent.width (crossed_at c.args.factor) c.args.olds.now c.args.quotients.now
    c.columns.olds_left.now c.columns.quotients_left.now c.columns.made.items c.next_of-column.result
    c.columns.invariant.crossing c.next_of-column.ensures c.if-width-column.false in
    record { room = omega (arith, c.columns.made.ok.0, c.columns.invariant.room) }

-- what is copied is what the target makes of it
copied : (old factor quotient : Fraction) → IsLowest old → 0 < factor.denominator → quotient ≡ nothing → old ≡ minus old (times factor quotient)
copied old factor quotient old_lowest factor_positive none =
    sym (ap (λ (q : Fraction). minus old (times factor q)) none ∙ crossed_nothing old factor old_lowest factor_positive)

pub columns-preserved-then-column-next_column : goal.columns-preserved-then-column-next_column
columns-preserved-then-column-next_column c =
    let column = c.next_of-column.result in
    let olds = c.columns.olds_left.now in
    let quotients = c.columns.quotients_left.now in
    let ahead : column < head_column quotients c.args.extent.width = subst (λ (n : ℕ). column < n) c.next_column.ensures c.if-column-next_column.true in
    let head_is = head_number c.args.extent.top olds column (nothing_number c.args.extent.top c.args.factor c.requires.factor) c.columns.invariant.olds in
    let old_is : IsTableNumber c.args.extent.top c.take_at-old.result.0 = subst (IsTableNumber c.args.extent.top) (sym c.take_at-old.ensures.fraction) head_is
    in
    let value_is = c.take_at-old.ensures.fraction
    ∙ copied (head_fraction olds column) c.args.factor (head_fraction quotients column) head_is.lowest
    c.requires.factor.lowest.positive (ahead_nothing quotients column c.args.extent.width ahead) in
    let turned =
    crossing_turns c.args.extent.width (crossed_at c.args.factor) c.args.olds.now c.args.quotients.now olds quotients
    c.columns.made.items c.put_entry.new.entries.items
    column c.take_at-old.result.0 (keeps c.args.factor c.requires.factor.lowest.positive) old_is.lowest
    c.columns.invariant.crossing c.next_of-column.ensures c.if-width-column.false value_is
    c.put_entry.ensures.put in
    rw c.take_at-old.ensures.rest
    (record {
      crossing = subst (λ (es : List (ℕ × Fraction)).
          Crossing c.args.extent.width (crossed_at c.args.factor) c.args.olds.now c.args.quotients.now
          (after_column olds column) es c.put_entry.new.entries.items)
          (ahead_same quotients column c.args.extent.width ahead) turned;
      olds = after_numbers c.args.extent.top olds column c.columns.invariant.olds;
      quotients = c.columns.invariant.quotients;
      made = put_numbers c.args.extent.top column c.take_at-old.result.0 c.columns.made.items c.put_entry.new.entries.items
          c.columns.invariant.made old_is c.put_entry.ensures.put;
      room = omega (arith, c.put_entry.ensures.capacity, c.columns.invariant.room);
    })

pub columns-preserved : goal.columns-preserved
columns-preserved c =
    let column = c.next_of-column.result in
    let value_is = c.in_ok-value.ensures.exact
    ∙ ap (λ (q : Fraction). minus q (times c.args.factor c.take_at-quotient.result.0))
    c.take_at-old.ensures.fraction
    ∙ ap (λ (q : Fraction). minus (head_fraction c.columns.olds_left.now column) (times c.args.factor q))
    c.take_at-quotient.ensures.fraction in
    let turned =
    crossing_turns c.args.extent.width (crossed_at c.args.factor) c.args.olds.now c.args.quotients.now c.columns.olds_left.now
    c.columns.quotients_left.now c.columns.made.items c.put_entry-else-column-next_column.new.entries.items
    column c.in_ok-value.value (keeps c.args.factor c.requires.factor.lowest.positive)
    c.in_ok-value.ensures.number.lowest c.columns.invariant.crossing c.next_of-column.ensures
    c.if-width-column.false value_is c.put_entry-else-column-next_column.ensures.put in
    rw (c.take_at-old.ensures.rest, c.take_at-quotient.ensures.rest)
    (record {
      crossing = turned;
      olds = after_numbers c.args.extent.top c.columns.olds_left.now column c.columns.invariant.olds;
      quotients = after_numbers c.args.extent.top c.columns.quotients_left.now column c.columns.invariant.quotients;
      made = put_numbers c.args.extent.top column c.in_ok-value.value c.columns.made.items
          c.put_entry-else-column-next_column.new.entries.items c.columns.invariant.made c.in_ok-value.ensures.number
          c.put_entry-else-column-next_column.ensures.put;
      room = omega (arith, c.put_entry-else-column-next_column.ensures.capacity, c.columns.invariant.room);
    })
