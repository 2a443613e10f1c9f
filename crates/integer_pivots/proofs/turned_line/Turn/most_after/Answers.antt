-- The sizes of the products are added and compared as they are.
use Rattle.std.proofs.Common.{ap, subst, sym, arith}
use Rattle.std.specs.Prelude.{ℤ, pos, ◌≤ℤ◌, nat_abs}
use Rattle.std.proofs.lemmas.Int.{ints, unsigned_abs-mul}
use Rattle.integer_pivots.proofs.Sizes.{product_read, read_known}
use Rattle.integer_pivots.proofs.TurnLaws.{AreMeasured, measured_fits, measured_read, negated_fits, product_fits, product_of_read}
use Rattle.integer_pivots.proofs.turned_line.Turn.most_after.Goals as goal
use Rattle.integer_pivots.proofs.turned_line.Turn.most_after.Goals.{After-abs-2}

measured : (c : After-abs-2) → AreMeasured c.args.self.multiplier c.args.most c.args.self.factor c.args.entering c.abs.result c.abs-2.result
measured c = record {
  multiplier = c.requires.multiplier;
  most_in = c.requires.most;
  factor = c.requires.factor;
  entering = c.requires.entering;
  first = c.abs.ensures.value;
  second = c.abs-2.ensures.value;
}

pub overflow_mul-self : goal.overflow_mul-self
overflow_mul-self c = product_of_read c.args.self.multiplier c.args.most c.requires.multiplier c.requires.most

pub abs-requires : goal.abs-requires
abs-requires c = negated_fits c.args.self.multiplier c.args.most c.requires.multiplier c.requires.most

pub overflow_mul-self-2 : goal.overflow_mul-self-2
overflow_mul-self-2 c = product_of_read c.args.self.factor c.args.entering c.requires.factor c.requires.entering

pub abs-requires-2 : goal.abs-requires-2
abs-requires-2 c = negated_fits c.args.self.factor c.args.entering c.requires.factor c.requires.entering

pub overflow_add-numbers : goal.overflow_add-numbers
overflow_add-numbers c =
    measured_fits c.args.self.multiplier c.args.most c.args.self.factor c.args.entering c.abs.result c.abs-2.result
    (measured (goal.at.overflow_add-numbers c).After-abs-2)

pub overflow_mul-self-3 : goal.overflow_mul-self-3
overflow_mul-self-3 c = product_of_read c.args.self.factor c.args.denominator c.requires.factor c.requires.denominator

pub greater_size-requires-clause-from_zero : goal.greater_size-requires-clause-from_zero
greater_size-requires-clause-from_zero c =
    let is = measured_read c.args.self.multiplier c.args.most c.args.self.factor c.args.entering c.abs.result c.abs-2.result
    (measured (goal.at.greater_size-requires-clause-from_zero c).After-abs-2) in
    subst (λ (z : ℤ). pos 0 ≤ℤ z) (sym is) (omega (arith, ints))

pub greater_size-requires-clause-number : goal.greater_size-requires-clause-number
greater_size-requires-clause-number c =
    let small = product_fits c.args.self.factor c.args.denominator c.requires.factor c.requires.denominator in
    omega (arith, small)

pub returns-clause-from_zero : goal.returns-clause-from_zero
returns-clause-from_zero c =
    subst (λ (z : ℤ). pos 0 ≤ℤ z) (sym (read_known c.greater_size.result c.greater_size.type_inv)) c.greater_size.ensures.from_zero

pub returns-clause-numbers : goal.returns-clause-numbers
returns-clause-numbers c =
    let is = measured_read c.args.self.multiplier c.args.most c.args.self.factor c.args.entering c.abs.result c.abs-2.result
    (measured (goal.at.returns-clause-numbers c).After-abs-2) in
    let most = c.greater_size.ensures.most in
    omega (arith, most, ap nat_abs is, ap nat_abs (read_known c.greater_size.result c.greater_size.type_inv))

pub returns-clause-own : goal.returns-clause-own
returns-clause-own c =
    let number = c.greater_size.ensures.number in
    omega (
      arith,
      number,
      ap nat_abs (product_read c.args.self.factor c.args.denominator c.requires.factor c.requires.denominator),
      unsigned_abs-mul c.args.self.factor c.args.denominator,
      ap nat_abs (read_known c.greater_size.result c.greater_size.type_inv),
    )
