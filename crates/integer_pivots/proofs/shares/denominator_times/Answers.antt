-- The product of two positive numbers of at most 2^30.
use Rattle.std.proofs.Common.{◌^◌}
use Rattle.integer_pivots.proofs.ShareLaws.{positive_product_read, positive_product_size}
use Rattle.integer_pivots.proofs.Sizes.{size_most}
use Rattle.integer_pivots.proofs.TurnLaws.{product_of_read}
use Rattle.integer_pivots.proofs.shares.denominator_times.Goals as goal

pub overflow_mul-result : goal.overflow_mul-result
overflow_mul-result c =
    product_of_read c.args.denominator c.args.multiplier
    (size_most c.args.denominator (2 ^ 30) c.requires.denominator.0 c.requires.denominator.1)
    (size_most c.args.multiplier (2 ^ 30) c.requires.multiplier.0 c.requires.multiplier.1)

pub returns-clause-product : goal.returns-clause-product
returns-clause-product c =
    positive_product_size c.args.denominator c.args.multiplier c.requires.denominator c.requires.multiplier

pub returns-clause-range : goal.returns-clause-range
returns-clause-range c =
    positive_product_read c.args.denominator c.args.multiplier c.requires.denominator c.requires.multiplier
