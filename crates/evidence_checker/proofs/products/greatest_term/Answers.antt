use Rattle.std.proofs.Common.{◌≤◌, ◌*◌, sym, subst, arith}
use Rattle.std.specs.Prelude.{ℤ, nat_abs}
use Rattle.std.proofs.lemmas.Int.{ints}
use Rattle.evidence_checker.proofs.Sizes.{negative_is, positive_fits, positive_read, upper_size}
use Rattle.evidence_checker.proofs.products.greatest_term.Goals as goal

pub overflow_mul-result : goal.overflow_mul-result
overflow_mul-result c =
    positive_fits c.args.coefficient c.from.result c.args.low c.args.high (λ negative. omega (arith, ints, negative)) c.ranges.coefficient c.from.ensures
    (omega (arith, c.ranges.low)) (omega (arith, c.ranges.high)) c.requires

pub returns-then-coefficient-ge0-clause-value : goal.returns-then-coefficient-ge0-clause-value
returns-then-coefficient-ge0-clause-value c =
    positive_read c.args.coefficient c.from.result c.args.low c.args.high (λ negative. omega (arith, ints, negative)) c.ranges.coefficient c.from.ensures
    (omega (arith, c.ranges.low)) (omega (arith, c.ranges.high)) c.requires

pub returns-then-coefficient-ge0-clause-size : goal.returns-then-coefficient-ge0-clause-size
returns-then-coefficient-ge0-clause-size c =
    subst (λ (z : ℤ). nat_abs z ≤ nat_abs c.args.coefficient * 65535) (sym (returns-then-coefficient-ge0-clause-value c))
    (upper_size c.args.coefficient c.args.low c.args.high (omega (arith, c.ranges.low)) (omega (arith, c.ranges.high)))

pub returns-else-coefficient-ge0-clause-value : goal.returns-else-coefficient-ge0-clause-value
returns-else-coefficient-ge0-clause-value c =
    negative_is c.args.coefficient c.from-else-coefficient-ge0.result c.args.low c.args.high
    (omega (arith, ints)) c.ranges.coefficient c.from-else-coefficient-ge0.ensures
    (omega (arith, c.ranges.low)) c.requires

pub returns-else-coefficient-ge0-clause-size : goal.returns-else-coefficient-ge0-clause-size
returns-else-coefficient-ge0-clause-size c =
    subst (λ (z : ℤ). nat_abs z ≤ nat_abs c.args.coefficient * 65535)
    (sym (negative_is c.args.coefficient c.from-else-coefficient-ge0.result c.args.low c.args.high
    (omega (arith, ints)) c.ranges.coefficient c.from-else-coefficient-ge0.ensures (omega (arith, c.ranges.low))
    c.requires))
    (upper_size c.args.coefficient c.args.low c.args.high (omega (arith, c.ranges.low)) (omega (arith, c.ranges.high)))
