-- The product is read as it is.
use Rattle.std.proofs.Common.{◌^◌, arith}
use Rattle.table_kernel.proofs.ConstantSums.{product_fits, read_product}
use Rattle.table_kernel.proofs.constants.constant_term.Goals as goal

pub overflow_mul-result : goal.overflow_mul-result
overflow_mul-result c =
    product_fits c.args.coefficient c.args.constant (2 ^ 16) (2 ^ 44) c.requires.coefficient c.requires.constant (omega arith) (omega arith) (omega arith)

pub returns : goal.returns
returns c = read_product c.args.coefficient c.args.constant (2 ^ 16) (2 ^ 44) c.requires.coefficient c.requires.constant
    (omega arith) (omega arith) (omega arith)
