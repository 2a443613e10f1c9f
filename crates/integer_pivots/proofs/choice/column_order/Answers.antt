-- Products of small numbers fit; and where the other number is 0, the sign tells the order.
use Rattle.std.proofs.Common.{◌∙◌, arith}
use Rattle.std.specs.Ordering.{int_cmp}
use mathlib.Core.Path.{ap₂}
use Rattle.integer_pivots.proofs.Narrowing.{product_fits, product_read, sign_tells}
use Rattle.integer_pivots.proofs.choice.column_order.Goals as goal

pub overflow_mul-first : goal.overflow_mul-first
overflow_mul-first c = product_fits c.args.numbers.now c.args.line.now c.args.column c.args.other c.requires.small
    c.requires.line (omega (arith, c.requires.long, c.requires.column)) c.requires.other

pub overflow_mul-second : goal.overflow_mul-second
overflow_mul-second c = product_fits c.args.numbers.now c.args.line.now c.args.other c.args.column c.requires.small
    c.requires.line (omega (arith, c.requires.long, c.requires.other)) c.requires.column

pub returns : goal.returns
returns c =
    c.cmp-2.ensures
    ∙ ap₂ int_cmp
    (product_read c.args.numbers.now c.args.line.now c.args.column c.args.other c.requires.small c.requires.line
    (omega (arith, c.requires.long, c.requires.column)) c.requires.other)
    (product_read c.args.numbers.now c.args.line.now c.args.other c.args.column c.requires.small c.requires.line
    (omega (arith, c.requires.long, c.requires.other)) c.requires.column)

pub returns-then-others-eq0 : goal.returns-then-others-eq0
returns-then-others-eq0 c =
    c.cmp.ensures
    ∙ sign_tells c.args.numbers.now c.args.line.now c.args.column c.args.other c.requires.small
    (omega (arith, c.requires.long, c.requires.column)) (omega (arith, c.requires.long, c.requires.other))
    c.requires.positive c.if-others-eq0.true
