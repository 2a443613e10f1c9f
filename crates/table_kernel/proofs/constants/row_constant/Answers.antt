-- The two parts of the constant.
use Rattle.std.proofs.Common.{◌<◌, ◌^◌, ◌∙◌, arith, subst, sym, ap, w64, to_z, of_z}
use Rattle.std.specs.Prelude.{ℤ, ◌*ℤ◌, nat_abs}
use Rattle.integer_pivots.proofs.Sizes.{read_number, size_most}
use Rattle.table_kernel.proofs.ConstantSums.{read_sum}
use Rattle.table_kernel.proofs.constants.row_constant.Goals as goal

pub constant_sum-requires-clause-count : goal.constant_sum-requires-clause-count
constant_sum-requires-clause-count c = omega (arith, c.requires.fits.count, c.requires.many)

pub constant_sum-requires-clause-small : goal.constant_sum-requires-clause-small
constant_sum-requires-clause-small c v v_in = c.requires.constants v (omega (arith, v_in, c.requires.fits.count))

pub returns-clause-constant : goal.returns-clause-constant
returns-clause-constant c =
    let common = read_number c.args.common (omega (arith, size_most c.args.common (2 ^ 30) c.requires.common.0 c.requires.common.1)) in
    let value_there = read_number c.corner_value-value.result
    (subst (λ (z : ℤ). nat_abs z < 2 ^ 63) (sym c.corner_value-value.ensures)
    (omega (arith, c.requires.fits.corner))) in
    read_sum c.common_value.result c.constant_sum.result _ _
    (c.common_value.ensures.product
    ∙ ap (λ (z : ℤ). z *ℤ to_z w64 (of_z w64 c.corner_value-value.result)) common
    ∙ ap (λ (z : ℤ). c.args.common *ℤ z) (value_there ∙ c.corner_value-value.ensures))
    c.constant_sum.ensures.sum
    (omega (arith, c.common_value.ensures.size)) (omega (arith, c.constant_sum.ensures.size))
