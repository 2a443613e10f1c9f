-- The sum so far and what is left of it.
use Rattle.std.proofs.Common.{◌^◌, get_or, w64, arith}
use Rattle.std.proofs.lemmas.Int.{fits_signed_from_abs}
use Rattle.design_problem.specs.Forms.{no_term}
use Rattle.table_kernel.proofs.LineSums.{summed_all, summed_first}
use Rattle.table_kernel.proofs.ConstantSums.{gathered_read}
use Rattle.table_kernel.proofs.constants.constant_sum.Goals as goal

pub loop-term-init : goal.loop-term-init
loop-term-init c = summed_first (2 ^ 44) (2 ^ 60) c.args.constants.now c.terms-term-items.result.now c.args.form.now.coefficients
    c.terms-term-items.ensures.terms (omega (arith, c.requires.light))

pub overflow_add-sum : goal.overflow_add-sum
overflow_add-sum c =
    let ts = c.terms-term-items.result.now in
    let t = get_or ts c.loop-term.term-index no_term in
    fits_signed_from_abs w64 _ (gathered_read c.args.constants.now ts c.loop-term.term-index no_term _
    c.constant_term-sum.result c.loop-term-test.true
    (c.requires.small t.var (c.terms-term-items.ensures.known c.loop-term.term-index no_term c.loop-term-test.true)) c.loop-term.invariant
    c.constant_term-sum.ensures).0

pub loop-term-preserved : goal.loop-term-preserved
loop-term-preserved c =
    let ts = c.terms-term-items.result.now in
    let t = get_or ts c.loop-term.term-index no_term in
    (gathered_read c.args.constants.now ts c.loop-term.term-index no_term _ c.constant_term-sum.result
    c.loop-term-test.true (c.requires.small t.var (c.terms-term-items.ensures.known c.loop-term.term-index no_term c.loop-term-test.true))
    c.loop-term.invariant c.constant_term-sum.ensures).1

pub returns-clause-sum : goal.returns-clause-sum
returns-clause-sum c = summed_all (2 ^ 44) (2 ^ 60) c.args.constants.now c.terms-term-items.result.now c.loop-term.term-index _
    c.args.form.now.coefficients c.loop-term-test.false c.terms-term-items.ensures.terms c.requires.count
    c.loop-term.invariant
