use Rattle.std.proofs.Common.{sym, ◌∙◌, ap, subst, SFits, to_z, of_z}
use Rattle.std.specs.Int.{w128}
use Rattle.std.specs.Prelude.{ℤ, nat_abs}
use Rattle.std.proofs.lemmas.Int.{to_z-of_z}
use Rattle.design_problem.proofs.ProductSizes.{product_is, product_fits, sum_is, sum_fits}
use Rattle.design_problem.proofs.products.plus_product.Goals as goal

pub overflow_mul-result : goal.overflow_mul-result
overflow_mul-result c =
    subst (λ (z : ℤ). SFits w128 z) (sym (product_is c.args.multiplier c.args.factor c.from.result c.requires.multiplier c.ranges.factor c.from.ensures))
    (product_fits (nat_abs c.args.sum) c.args.multiplier c.args.factor c.requires.size)

pub overflow_add-result : goal.overflow_add-result
overflow_add-result c =
    let product = product_is c.args.multiplier c.args.factor c.from.result c.requires.multiplier c.ranges.factor c.from.ensures in
    subst (λ (z : ℤ). SFits w128 z)
    (sym (sum_is c.args.sum _ _ c.ranges.sum product
    (product_fits (nat_abs c.args.sum) c.args.multiplier c.args.factor c.requires.size)))
    (sum_fits c.args.sum c.args.multiplier c.args.factor c.requires.size)

pub returns : goal.returns
returns c =
    let product = product_is c.args.multiplier c.args.factor c.from.result c.requires.multiplier c.ranges.factor c.from.ensures in
    ap (λ (z : ℤ). to_z w128 (of_z w128 z))
    (sum_is c.args.sum _ _ c.ranges.sum product
    (product_fits (nat_abs c.args.sum) c.args.multiplier c.args.factor c.requires.size))
    ∙ to_z-of_z w128 _ (sum_fits c.args.sum c.args.multiplier c.args.factor c.requires.size)
