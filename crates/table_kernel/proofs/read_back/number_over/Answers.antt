-- A number over a multiple of its denominator.
use Rattle.std.proofs.Common.{◌^◌, ◌≤◌, sym, ◌∙◌, ap, subst, arith}
use Rattle.std.specs.Prelude.{ℤ, nat_abs}
use Rattle.integer_pivots.proofs.Sizes.{read, read_number}
use Rattle.whole_numbers.proofs.Sizes.{size_positive}
use Rattle.table_kernel.specs.ReadBack.{over_denominator}
use Rattle.table_kernel.proofs.ReadRows.{IsNumberMade, limit_is, numerator_read, numerator_smaller, product_fits, product_read}
use Rattle.table_kernel.proofs.read_back.number_over.Goals.{After-denominator}
use Rattle.table_kernel.proofs.read_back.number_over.Goals as goal

made : (c : After-denominator) → IsNumberMade c.args.value c.args.denominator c.numerator-numerator.result c.from.result c.denominator.result
made c = record {
  positive = c.requires.denominator.0;
  small = c.requires.denominator.1;
  fraction = c.denominator.ensures.kept;
  top_is = c.numerator-numerator.ensures.value;
  wide_is = c.from.ensures;
  below_is = c.denominator.ensures.value;
}

-- behind the first test the numerator is small
few : (c : After-denominator) → nat_abs c.args.value.numerator ≤ 2 ^ 44
few c =
    let v = c.numerator-numerator in
    let known = ap nat_abs (numerator_read c.args.value v.result v.ensures.kept v.ensures.value) in
    let limit = limit_is c.args.limit c.requires.limit in
    omega (arith, c.unsigned_abs.ensures.value, known, limit.0, limit.1, c.if-unsigned_abs-limit.false)

pub returns-then-unsigned_abs-limit : goal.returns-then-unsigned_abs-limit
returns-then-unsigned_abs-limit c =
    let v = c.numerator-numerator in
    let known = ap nat_abs (numerator_read c.args.value v.result v.ensures.kept v.ensures.value) in
    let limit = limit_is c.args.limit c.requires.limit in
    let more = numerator_smaller (nat_abs c.args.denominator) c.args.value
    (size_positive c.args.denominator c.requires.denominator.0) c.requires.whole in
    omega (arith, c.unsigned_abs.ensures.value, known, limit.1, more, c.if-unsigned_abs-limit.true)

pub overflow_mul-number : goal.overflow_mul-number
overflow_mul-number c =
    let a = (goal.at.overflow_mul-number c).After-denominator in
    product_fits c.args.value c.args.denominator c.numerator-numerator.result c.from.result c.denominator.result (made a) (few a)

pub returns-then-unsigned_abs-limit-2 : goal.returns-then-unsigned_abs-limit-2
returns-then-unsigned_abs-limit-2 c =
    let a = (goal.at.returns-then-unsigned_abs-limit-2 c).After-denominator in
    let is = product_read c.args.value c.args.denominator c.numerator-numerator.result c.from.result c.denominator.result (made a) (few a) in
    let limit = limit_is c.args.limit c.requires.limit in
    omega (arith, c.unsigned_abs-2.ensures.value, ap nat_abs is, limit.1, c.if-unsigned_abs-limit-2.true)

pub returns : goal.returns
returns c =
    let a = (goal.at.returns c).After-denominator in
    let is = product_read c.args.value c.args.denominator c.numerator-numerator.result c.from.result c.denominator.result (made a) (few a) in
    let limit = limit_is c.args.limit c.requires.limit in
    let number = over_denominator (nat_abs c.args.denominator) c.args.value in
    let within : nat_abs number ≤ nat_abs c.args.limit =
    omega (arith, c.unsigned_abs-2.ensures.value, ap nat_abs is, limit.1, c.if-unsigned_abs-limit-2.false) in
    let same = ap read is ∙ read_number number (omega (arith, within, limit.0)) in
    (same, subst (λ (z : ℤ). nat_abs z ≤ nat_abs c.args.limit) (sym same) within)
