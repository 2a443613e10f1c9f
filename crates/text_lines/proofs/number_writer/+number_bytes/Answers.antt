use Rattle.std.proofs.Common.{◌≡◌, ◌≤◌, ◌^◌, ◌+◌, ◌/◌, arith, length, lit≤, sym, ◌∙◌, ap, take, []}
use Rattle.cost_base.specs.Decimal.{decimal}
use Rattle.text_lines.proofs.Digits.{decimal-step, decimal-small, length-decimal-le, length-decimal-step, digit_put}
use Rattle.text_lines.proofs.number_writer.+number_bytes.Goals as goal
use Rattle.text_lines.proofs.number_writer.+number_bytes.Goals.{then-value-lt10, else-value-lt10}

pub returns-clause-count : goal.returns-clause-count
returns-clause-count t c =
    elim c.if-value-lt10.branch [
      | then-value-lt10 w ↦ omega (arith, ap length (decimal-small c.args.value w.if-value-lt10.true))
      | else-value-lt10 w ↦ omega (arith, length-decimal-step c.args.value w.if-value-lt10.false)
    ]

pub returns-clause-within : goal.returns-clause-within
returns-clause-within t c =
    let count : c.if-value-lt10.before + 1 ≡ length (decimal c.args.value) = returns-clause-count t c in
    let big : 2 ^ 128 ≤ 10 ^ 39 = lit≤ tt in
    omega (arith, length-decimal-le 39 c.args.value (lit≤ tt) (omega arith))

pub returns-clause-digits : goal.returns-clause-digits
returns-clause-digits t c =
    elim c.if-value-lt10.branch [
      | then-value-lt10 w ↦ digit_put c.if-value-lt10.room [] c.if-value-lt10.before c.args.value (omega arith)
          (ap (λ n. take n c.if-value-lt10.room) w.before-is) ∙ sym (decimal-small c.args.value w.if-value-lt10.true)
      | else-value-lt10 w ↦ digit_put c.if-value-lt10.room (decimal (c.args.value / 10)) c.if-value-lt10.before
          c.args.value (omega arith) (rw (w.before-is, w.room-is) w.number_bytes-before.ensures.digits)
          ∙ sym (decimal-step c.args.value w.if-value-lt10.false)
    ]
