-- The product fits 128 bits.
use Rattle.std.proofs.Common.{◌∙◌, refl, arith}
use Rattle.integer_pivots.proofs.Sizes.{read_number}
use Rattle.table_kernel.proofs.WideNumbers.{wide_product_fits, wide_product_is}
use Rattle.table_kernel.proofs.line.product_of.Goals as goal

pub overflow_mul-result : goal.overflow_mul-result
overflow_mul-result c =
    wide_product_fits c.from.result c.args.number c.args.factor c.args.number
    (c.from.ensures ∙ read_number c.args.factor (omega (arith, c.requires.factor))) refl
    (omega (arith, c.requires.factor)) c.requires.number

pub returns : goal.returns
returns c =
    wide_product_is c.from.result c.args.number c.args.factor c.args.number
    (c.from.ensures ∙ read_number c.args.factor (omega (arith, c.requires.factor))) refl
    (omega (arith, c.requires.factor)) c.requires.number
