-- The product is read as it is.
use Rattle.std.proofs.Common.{◌^◌, ◌≤◌, arith, subst, sym}
use Rattle.std.specs.Prelude.{ℤ, nat_abs}
use Rattle.integer_pivots.proofs.Sizes.{product_small}
use Rattle.table_kernel.proofs.ConstantSums.{product_fits, read_product}
use Rattle.table_kernel.proofs.constants.common_value.Goals as goal

pub overflow_mul-result : goal.overflow_mul-result
overflow_mul-result c =
    product_fits c.args.common c.args.value (2 ^ 30) (2 ^ 27) c.requires.common c.requires.value (omega arith) (omega arith) (omega arith)

pub returns-clause-product : goal.returns-clause-product
returns-clause-product c = read_product c.args.common c.args.value (2 ^ 30) (2 ^ 27) c.requires.common c.requires.value
    (omega arith) (omega arith) (omega arith)

pub returns-clause-size : goal.returns-clause-size
returns-clause-size c =
    subst (λ (z : ℤ). nat_abs z ≤ 2 ^ 57)
    (sym (read_product c.args.common c.args.value (2 ^ 30) (2 ^ 27) c.requires.common c.requires.value (omega arith)
    (omega arith) (omega arith)))
    (product_small (2 ^ 30) (2 ^ 27) c.args.common c.args.value c.requires.common c.requires.value)
