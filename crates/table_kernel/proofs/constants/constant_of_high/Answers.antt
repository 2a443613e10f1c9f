-- The difference is read as it is.
use Rattle.std.proofs.Common.{◌≤◌, ◌^◌, arith, subst, sym}
use Rattle.std.specs.Prelude.{ℤ, pos, ◌-ℤ◌, nat_abs}
use Rattle.integer_pivots.proofs.Sizes.{size_most}
use Rattle.table_kernel.proofs.ConstantSums.{high_fits, high_read, product_fits}
use Rattle.table_kernel.proofs.constants.constant_of_high.Goals.{After-range_of}
use Rattle.table_kernel.proofs.constants.constant_of_high.Goals as goal

sizes : (c : After-range_of) → (nat_abs c.args.common ≤ 2 ^ 30) × (nat_abs c.range_of.result ≤ 2 ^ 27)
sizes c =
    let small = c.range_of.ensures.small in
    (size_most c.args.common (2 ^ 30) c.requires.common.0 c.requires.common.1, omega (arith, small))

pub overflow_mul-result : goal.overflow_mul-result
overflow_mul-result c =
    let s = sizes (goal.at.overflow_mul-result c).After-range_of in
    product_fits c.args.common c.range_of.result (2 ^ 30) (2 ^ 27) s.0 s.1 (omega arith) (omega arith) (omega arith)

pub overflow_sub-result : goal.overflow_sub-result
overflow_sub-result c =
    let s = sizes (goal.at.overflow_sub-result c).After-range_of in
    high_fits c.args.common c.range_of.result c.args.constant s.0 s.1 c.requires.constant

pub returns-clause-constant : goal.returns-clause-constant
returns-clause-constant c =
    let s = sizes (goal.at.returns-clause-constant c).After-range_of in
    (high_read c.args.common c.range_of.result c.args.constant s.0 s.1 c.requires.constant (pos c.args.high -ℤ pos c.args.low) c.range_of.ensures.range).0

pub returns-clause-size : goal.returns-clause-size
returns-clause-size c =
    let s = sizes (goal.at.returns-clause-size c).After-range_of in
    let is = high_read c.args.common c.range_of.result c.args.constant s.0 s.1 c.requires.constant (pos c.args.high -ℤ pos c.args.low) c.range_of.ensures.range
    in
    subst (λ (z : ℤ). nat_abs z ≤ 2 ^ 62) (sym is.0) is.1
