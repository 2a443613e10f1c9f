-- The product is that of the numbers, and small.
use Rattle.std.proofs.Common.{◌∙◌}
use Rattle.design_problem.proofs.TermProducts.{product_fits, product_high, product_low, product_read, read_size}
use Rattle.design_problem.proofs.greatest.greatest_term.Goals as goal

pub overflow_mul-result : goal.overflow_mul-result
overflow_mul-result c = product_fits c.args.coefficient c.from.result c.args.high c.requires c.ranges.high.fits c.from.ensures

pub overflow_mul-result-else-coefficient-ge0 : goal.overflow_mul-result-else-coefficient-ge0
overflow_mul-result-else-coefficient-ge0 c =
    product_fits c.args.coefficient c.from-else-coefficient-ge0.result c.args.low c.requires c.ranges.low.fits
    c.from-else-coefficient-ge0.ensures

pub returns-then-coefficient-ge0-clause-value : goal.returns-then-coefficient-ge0-clause-value
returns-then-coefficient-ge0-clause-value c =
    product_read c.args.coefficient c.from.result c.args.high c.requires c.ranges.high.fits c.from.ensures
    ∙ product_high c.args.coefficient c.args.low c.args.high c.requires c.if-coefficient-ge0.true

pub returns-then-coefficient-ge0-clause-size : goal.returns-then-coefficient-ge0-clause-size
returns-then-coefficient-ge0-clause-size c =
    read_size c.args.coefficient c.from.result c.args.high c.requires c.ranges.high.fits c.from.ensures

pub returns-else-coefficient-ge0-clause-value : goal.returns-else-coefficient-ge0-clause-value
returns-else-coefficient-ge0-clause-value c =
    product_read c.args.coefficient c.from-else-coefficient-ge0.result c.args.low c.requires c.ranges.low.fits
    c.from-else-coefficient-ge0.ensures
    ∙ product_low c.args.coefficient c.args.low c.args.high c.requires c.if-coefficient-ge0.false

pub returns-else-coefficient-ge0-clause-size : goal.returns-else-coefficient-ge0-clause-size
returns-else-coefficient-ge0-clause-size c =
    read_size c.args.coefficient c.from-else-coefficient-ge0.result c.args.low c.requires c.ranges.low.fits
    c.from-else-coefficient-ge0.ensures
