-- The constant times how often the line's denominator goes into the common one.
use Rattle.table_kernel.proofs.ConstantReads.{constant_fits, constant_read, constant_size}
use Rattle.table_kernel.proofs.constants.constant_over.Goals as goal

pub overflow_mul-result : goal.overflow_mul-result
overflow_mul-result c =
    let l = c.requires.line in
    constant_fits c.args.line.now.constant c.args.common c.args.line.now.denominator c.requires.common l.positive l.divides l.limit

pub returns-clause-constant : goal.returns-clause-constant
returns-clause-constant c =
    let l = c.requires.line in
    constant_read c.args.line.now.constant c.args.common c.args.line.now.denominator c.requires.common l.positive l.divides l.limit

pub returns-clause-size : goal.returns-clause-size
returns-clause-size c =
    let l = c.requires.line in
    constant_size c.args.line.now.constant c.args.common c.args.line.now.denominator c.requires.common l.positive l.divides l.limit
