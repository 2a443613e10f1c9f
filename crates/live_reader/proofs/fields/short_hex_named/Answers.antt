use Rattle.std.proofs.Common.{arith, length, ap}
use Rattle.live_reader.proofs.FieldLaws.{hex_short}
use Rattle.live_reader.proofs.fields.short_hex_named.Goals as goal

pub overflow_cast-result : goal.overflow_cast-result
overflow_cast-result c =
    omega (
      arith,
      hex_short (length c.as_bytes.result.now) c.in-Some.value c.in-Some.ensures.small
          (omega (arith, c.if-text-gt4.false, ap length c.as_bytes.ensures.value)),
    )
