use Rattle.integer_pivots.proofs.Reciprocals.{divided_high, divided_low, divisor_times, opposite_fits, quotient_fits}
use Rattle.integer_pivots.proofs.reciprocal.Divisor.over.Goals as goal

pub overflow_cast-times : goal.overflow_cast-times
overflow_cast-times c =
    let whole = divisor_times c.args.number c.args.self.number c.requires.reciprocal.positive c.requires.whole in
    quotient_fits c.quotient-times.result c.unsigned_abs.result c.args.number c.args.self.number whole.0
    c.requires.reciprocal.positive c.quotient-times.ensures.times c.requires.size c.unsigned_abs.ensures.value whole.1

pub returns-then-number-lt0 : goal.returns-then-number-lt0
returns-then-number-lt0 c =
    let whole = divisor_times c.args.number c.args.self.number c.requires.reciprocal.positive c.requires.whole in
    divided_low c.quotient-times.result c.unsigned_abs.result c.args.number c.args.self.number whole.0
    c.requires.reciprocal.positive c.quotient-times.ensures.times c.requires.size c.unsigned_abs.ensures.value whole.1 c.if-number-lt0.true

pub returns-else-number-lt0 : goal.returns-else-number-lt0
returns-else-number-lt0 c =
    let whole = divisor_times c.args.number c.args.self.number c.requires.reciprocal.positive c.requires.whole in
    divided_high c.quotient-times.result c.unsigned_abs.result c.args.number c.args.self.number whole.0
    c.requires.reciprocal.positive c.quotient-times.ensures.times c.requires.size c.unsigned_abs.ensures.value whole.1 c.if-number-lt0.false

pub overflow_sub-result : goal.overflow_sub-result
overflow_sub-result c =
    let whole = divisor_times c.args.number c.args.self.number c.requires.reciprocal.positive c.requires.whole in
    opposite_fits c.quotient-times.result c.unsigned_abs.result c.args.number c.args.self.number whole.0
    c.requires.reciprocal.positive c.quotient-times.ensures.times c.requires.size c.unsigned_abs.ensures.value whole.1
