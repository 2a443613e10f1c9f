-- The products and their difference fit 64 bits.
use Rattle.std.proofs.Common.{sym, ◌∙◌, List}
use Rattle.std.specs.Prelude.{ℤ}
use mathlib.Core.Path.{ap₂}
use Rattle.whole_numbers.specs.Lists.{number_at}
use Rattle.integer_pivots.specs.Turns.{turned_number}
use Rattle.integer_pivots.proofs.Sizes.{product_read}
use Rattle.integer_pivots.proofs.TurnLaws.{product_of_read}
use Rattle.integer_pivots.proofs.LowestSteps.{after_fits, after_other, after_own, after_read, after_read_small, line_denominator, number_same, own_read_small}
use Rattle.integer_pivots.proofs.LineReads.{number_small}
use Rattle.integer_pivots.proofs.line.Line.turned_entry.Goals as goal

pub overflow_mul-result : goal.overflow_mul-result
overflow_mul-result c =
    product_of_read c.args.turn.factor c.args.entering.now.denominator c.requires.factor (line_denominator c.args.entering.now c.requires.entering)

pub returns-then-column-pivots-clause-value : goal.returns-then-column-pivots-clause-value
returns-then-column-pivots-clause-value c =
    product_read c.args.turn.factor c.args.entering.now.denominator c.requires.factor (line_denominator c.args.entering.now c.requires.entering)
    ∙ sym (after_own c.args.turn c.args.pivots c.args.entering.now c.args.self.now c.args.column c.if-column-pivots.true)

pub returns-then-column-pivots-clause-size : goal.returns-then-column-pivots-clause-size
returns-then-column-pivots-clause-size c =
    own_read_small c.args.turn.factor c.args.entering.now.denominator c.requires.factor (line_denominator c.args.entering.now c.requires.entering)

pub overflow_mul-result-2 : goal.overflow_mul-result-2
overflow_mul-result-2 c =
    product_of_read c.args.turn.multiplier (number_at c.as_slice.result.now c.args.column) c.requires.multiplier
    (number_same c.as_slice.result.now c.args.self.now.numbers c.args.column c.as_slice.ensures c.requires.small)

pub overflow_mul-result-3 : goal.overflow_mul-result-3
overflow_mul-result-3 c =
    product_of_read c.args.turn.factor (number_at c.as_slice-2.result.now c.args.column) c.requires.factor
    (number_same c.as_slice-2.result.now c.args.entering.now.numbers c.args.column c.as_slice-2.ensures
    (number_small c.args.entering.now c.requires.entering c.args.column))

pub overflow_sub-result : goal.overflow_sub-result
overflow_sub-result c =
    after_fits c.args.turn.multiplier c.args.turn.factor (number_at c.as_slice.result.now c.args.column)
    (number_at c.as_slice-2.result.now c.args.column) c.requires.multiplier c.requires.factor
    (number_same c.as_slice.result.now c.args.self.now.numbers c.args.column c.as_slice.ensures c.requires.small)
    (number_same c.as_slice-2.result.now c.args.entering.now.numbers c.args.column c.as_slice-2.ensures
    (number_small c.args.entering.now c.requires.entering c.args.column))

pub returns-clause-value : goal.returns-clause-value
returns-clause-value c =
    after_read c.args.turn.multiplier c.args.turn.factor (number_at c.as_slice.result.now c.args.column)
    (number_at c.as_slice-2.result.now c.args.column) c.requires.multiplier c.requires.factor
    (number_same c.as_slice.result.now c.args.self.now.numbers c.args.column c.as_slice.ensures c.requires.small)
    (number_same c.as_slice-2.result.now c.args.entering.now.numbers c.args.column c.as_slice-2.ensures
    (number_small c.args.entering.now c.requires.entering c.args.column))
    ∙ ap₂ (λ (xs ys : List ℤ). turned_number c.args.turn (number_at xs c.args.column) (number_at ys c.args.column))
    c.as_slice.ensures c.as_slice-2.ensures
    ∙ sym (after_other c.args.turn c.args.pivots c.args.entering.now c.args.self.now c.args.column c.if-column-pivots.false)

pub returns-clause-size : goal.returns-clause-size
returns-clause-size c =
    after_read_small c.args.turn.multiplier c.args.turn.factor (number_at c.as_slice.result.now c.args.column)
    (number_at c.as_slice-2.result.now c.args.column) c.requires.multiplier c.requires.factor
    (number_same c.as_slice.result.now c.args.self.now.numbers c.args.column c.as_slice.ensures c.requires.small)
    (number_same c.as_slice-2.result.now c.args.entering.now.numbers c.args.column c.as_slice-2.ensures
    (number_small c.args.entering.now c.requires.entering c.args.column))
