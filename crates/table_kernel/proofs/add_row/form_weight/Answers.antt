-- The weight so far and what is left of it.
use Rattle.std.proofs.Common.{get_or, w64, to_z}
use Rattle.design_problem.specs.Forms.{no_term}
use Rattle.table_kernel.proofs.RowWeights.{weighed_all, weighed_first, weighed_more, weighed_term, weight_turns}
use Rattle.table_kernel.proofs.add_row.form_weight.Goals as goal

pub loop-term-init : goal.loop-term-init
loop-term-init c = weighed_first c.terms-term-items.result.now c.args.form.now.coefficients c.terms-term-items.ensures.terms c.requires.few c.requires.sizes

pub abs-sum-requires : goal.abs-sum-requires
abs-sum-requires c =
    let ts = c.terms-term-items.result.now in
    weight_turns (get_or ts c.loop-term.term-index no_term).coefficient
    (weighed_term ts c.loop-term.term-index no_term _ c.loop-term-test.true c.loop-term.invariant)

pub overflow_add-sum : goal.overflow_add-sum
overflow_add-sum c =
    (weighed_more c.terms-term-items.result.now c.loop-term.term-index no_term (to_z w64 c.loop-term.sum-bits) c.abs-sum.result
    c.loop-term-test.true c.abs-sum.ensures.value c.loop-term.invariant).0

pub loop-term-preserved : goal.loop-term-preserved
loop-term-preserved c =
    (weighed_more c.terms-term-items.result.now c.loop-term.term-index no_term (to_z w64 c.loop-term.sum-bits) c.abs-sum.result
    c.loop-term-test.true c.abs-sum.ensures.value c.loop-term.invariant).1

pub returns : goal.returns
returns c = weighed_all c.terms-term-items.result.now c.loop-term.term-index _ c.args.form.now.coefficients
    c.loop-term-test.false c.terms-term-items.ensures.terms c.loop-term.invariant
