use Rattle.std.proofs.Common.{◌≡◌, ◌<◌, ◌^◌, ◌*◌, ◌+◌, arith, get_or, sym, ◌∙◌, true}
use Rattle.cost_base.specs.Decimal.{is_digit}
use Rattle.text_lines.proofs.Digits.{digits-more, decimal_value-more, decimal_value-take-le}
use Rattle.text_lines.proofs.number_reader.digits_value.Goals as goal

pub returns-in_err-checked_mul : goal.returns-in_err-checked_mul
returns-in_err-checked_mul c =
    let past : c.loop-byte.value * 10 < 2 ^ 128 → ⊥ = c.in_err-checked_mul.ensures in
    rw c.from_residual.ensures (λ _.
    omega (
      arith,
      past,
      decimal_value-more c.args.text.now c.loop-byte.byte-index c.loop-byte-test.true,
      decimal_value-take-le c.args.text.now (c.loop-byte.byte-index + 1),
    ))

pub returns-in_err-value : goal.returns-in_err-value
returns-in_err-value c =
    let tens : c.in_ok-checked_mul.field-0 ≡ c.loop-byte.value * 10 = c.in_ok-checked_mul.ensures.1 in
    let past : c.in_ok-checked_mul.field-0 + c.from-digit.result < 2 ^ 128 → ⊥ = c.in_err-value.ensures in
    rw c.from_residual-in_err-value.ensures
    (λ _. omega (
      arith,
      past,
      tens,
      decimal_value-more c.args.text.now c.loop-byte.byte-index c.loop-byte-test.true,
      decimal_value-take-le c.args.text.now (c.loop-byte.byte-index + 1),
    ))

pub loop-byte-preserved : goal.loop-byte-preserved
loop-byte-preserved c =
    let here : is_digit (get_or c.args.text.now c.loop-byte.byte-index 0) ≡ true = sym c.is_ascii_digit.ensures.value ∙ c.if-not-is_ascii_digit.false in
    let tens : c.in_ok-checked_mul.field-0 ≡ c.loop-byte.value * 10 = c.in_ok-checked_mul.ensures.1 in
    let sum : c.in_ok-value.value ≡ c.in_ok-checked_mul.field-0 + c.from-digit.result = c.in_ok-value.ensures.1 in
    record {
      digits = digits-more c.args.text.now c.loop-byte.byte-index c.loop-byte-test.true c.loop-byte.invariant.digits here;
      value = omega (arith, tens, sum, decimal_value-more c.args.text.now c.loop-byte.byte-index c.loop-byte-test.true);
    }
