-- One more factor is added.
use Rattle.std.proofs.Common.{◌+◌, get_or, arith, FitsSigned, w64, to_z}
use Rattle.std.specs.Prelude.{◌+ℤ◌, ◌*ℤ◌, nat_abs}
use Rattle.design_problem.specs.Forms.{no_term}
use Rattle.integer_pivots.proofs.Sizes.{read}
use Rattle.table_kernel.proofs.AtBasis.{kernel_moves}
use Rattle.table_kernel.proofs.Columns.{common_small}
use Rattle.table_kernel.proofs.Factors.{IsFactorPart, coefficient_light, coefficient_turns, factors_all, factors_first, factors_size, factors_step}
use Rattle.table_kernel.proofs.kernel.Kernel.factor_sum.Goals as goal
use Rattle.table_kernel.proofs.kernel.Kernel.factor_sum.Goals.{After-share}

pub loop-term-init : goal.loop-term-init
loop-term-init c =
    let k = c.args.self.now in
    factors_first (nat_abs k.common) k.lows.items c.terms-term-items.result.now c.args.form.now.coefficients
    c.terms-term-items.ensures.terms c.requires.light

pub abs-requires : goal.abs-requires
abs-requires c =
    let k = c.args.self.now in
    let t = get_or c.terms-term-items.result.now c.loop-term.term-index no_term in
    coefficient_turns t.coefficient
    (coefficient_light (nat_abs k.common) k.lows.items c.terms-term-items.result.now c.loop-term.term-index no_term _ c.loop-term-test.true
    c.loop-term.invariant)

pub share-requires-clause-kernel : goal.share-requires-clause-kernel
share-requires-clause-kernel c = kernel_moves c.args.self.now c.requires.kernel

pub share-requires-clause-var : goal.share-requires-clause-var
share-requires-clause-var c =
    let known = c.terms-term-items.ensures.known c.loop-term.term-index no_term c.loop-term-test.true in
    omega (arith, known, c.requires.count)

step : (c : After-share) →
    FitsSigned w64 (read c.abs.result *ℤ read c.share.result)
    × FitsSigned w64 (to_z w64 c.loop-term.sum-bits +ℤ read (read c.abs.result *ℤ read c.share.result))
    × IsFactorPart (nat_abs c.args.self.now.common) c.args.self.now.lows.items c.terms-term-items.result.now (c.loop-term.term-index + 1)
    (read (to_z w64 c.loop-term.sum-bits +ℤ read (read c.abs.result *ℤ read c.share.result)))
step c =
    let k = c.args.self.now in
    factors_step (nat_abs k.common) k.lows.items c.terms-term-items.result.now c.loop-term.term-index no_term (to_z w64 c.loop-term.sum-bits)
    c.abs.result c.share.result (common_small k c.requires.kernel.bounded) c.loop-term-test.true c.abs.ensures.value c.share.ensures.share c.loop-term.invariant

pub overflow_mul-sum : goal.overflow_mul-sum
overflow_mul-sum c = (step (goal.at.overflow_mul-sum c).After-share).0

pub overflow_add-sum : goal.overflow_add-sum
overflow_add-sum c = (step (goal.at.overflow_add-sum c).After-share).1

pub loop-term-preserved : goal.loop-term-preserved
loop-term-preserved c = (step (goal.at.loop-term-preserved c).After-share).2

pub returns-clause-sum : goal.returns-clause-sum
returns-clause-sum c =
    let k = c.args.self.now in
    factors_all (nat_abs k.common) k.lows.items c.terms-term-items.result.now c.loop-term.term-index _ c.args.form.now.coefficients
    c.loop-term-test.false c.terms-term-items.ensures.terms (omega (arith, c.requires.count, c.requires.kernel.shaped.lows)) c.loop-term.invariant

pub returns-clause-size : goal.returns-clause-size
returns-clause-size c = factors_size (to_z w64 c.loop-term.sum-bits) (omega (arith, c.loop-term.invariant.size))
