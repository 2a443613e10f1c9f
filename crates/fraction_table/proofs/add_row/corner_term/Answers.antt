-- The product is that of the numbers, and small.
use Rattle.std.proofs.Common.{◌^◌, sym, subst}
use Rattle.std.specs.Prelude.{ℤ, pos, ◌+ℤ◌, ◌*ℤ◌, ◌≤ℤ◌}
use Rattle.design_problem.proofs.TermProducts.{product_small}
use Rattle.fraction_table.proofs.CornerTerms.{at_least, at_most, term_fits, term_read}
use Rattle.fraction_table.proofs.add_row.corner_term.Goals as goal

pub overflow_mul-result : goal.overflow_mul-result
overflow_mul-result c =
    term_fits c.args.coefficient c.from.result c.from-2.result c.args.low c.requires c.ranges.low.fits c.from.ensures c.from-2.ensures

pub returns-clause-value : goal.returns-clause-value
returns-clause-value c =
    term_read c.args.coefficient c.from.result c.from-2.result c.args.low c.requires c.ranges.low.fits c.from.ensures c.from-2.ensures

pub returns-clause-most : goal.returns-clause-most
returns-clause-most c =
    subst (λ (z : ℤ). z ≤ℤ pos (2 ^ 42))
    (sym (term_read c.args.coefficient c.from.result c.from-2.result c.args.low c.requires c.ranges.low.fits c.from.ensures c.from-2.ensures))
    (at_most (c.args.coefficient *ℤ pos c.args.low) (product_small c.args.coefficient c.args.low c.requires c.ranges.low.fits))

pub returns-clause-least : goal.returns-clause-least
returns-clause-least c =
    subst (λ (z : ℤ). pos 0 ≤ℤ (z +ℤ pos (2 ^ 42)))
    (sym (term_read c.args.coefficient c.from.result c.from-2.result c.args.low c.requires c.ranges.low.fits c.from.ensures c.from-2.ensures))
    (at_least (c.args.coefficient *ℤ pos c.args.low) (product_small c.args.coefficient c.args.low c.requires c.ranges.low.fits))
