use Rattle.std.proofs.Common.{sym, ◌∙◌, refl, arith}
use Rattle.live_reader.proofs.FieldLaws.{hex_more, hex_fails, hex_small, hex_fits}
use Rattle.live_reader.proofs.fields.hex_number.Goals as goal

pub loop-byte-init : goal.loop-byte-init
loop-byte-init c = record { told = refl; small = omega arith }

pub returns-in_err-digit-clause-value : goal.returns-in_err-digit-clause-value
returns-in_err-digit-clause-value c =
    c.from_residual.ensures ∙ sym (hex_fails c.args.text.now c.loop-byte.byte-index c.loop-byte.value c.loop-byte-test.true (sym c.in_err-digit.ensures.value))
    ∙ c.loop-byte.invariant.told

pub overflow_mul-value : goal.overflow_mul-value
overflow_mul-value c = omega (
  arith,
  hex_fits c.loop-byte.byte-index c.loop-byte.value c.in_ok-digit.digit c.loop-byte.invariant.small
      c.in_ok-digit.ensures.small (omega (arith, c.loop-byte-test.true, c.requires)),
)

pub overflow_add-value : goal.overflow_add-value
overflow_add-value c = omega (
  arith,
  hex_fits c.loop-byte.byte-index c.loop-byte.value c.in_ok-digit.digit c.loop-byte.invariant.small
      c.in_ok-digit.ensures.small (omega (arith, c.loop-byte-test.true, c.requires)),
)

pub loop-byte-preserved : goal.loop-byte-preserved
loop-byte-preserved c = record {
  told = sym (hex_more c.args.text.now c.loop-byte.byte-index c.loop-byte.value c.in_ok-digit.digit c.loop-byte-test.true (sym c.in_ok-digit.ensures.value)) ∙
      c.loop-byte.invariant.told;
  small = hex_small c.loop-byte.byte-index c.loop-byte.value c.in_ok-digit.digit c.loop-byte.invariant.small c.in_ok-digit.ensures.small;
}
