use Rattle.std.proofs.Common.{ℕ, length, rules, ap, sym, subst, ◌∙◌, w64, SFits, to_z, of_z, List}
use Rattle.std.specs.Int.{w128}
use Rattle.std.specs.Prelude.{◌≤◌, ◌^◌, nat_abs, ◌+ℤ◌}
use Rattle.std.proofs.lemmas.Int.{to_z-of_z}
use Rattle.design_problem.specs.Boxes.{upper_sum}
use Rattle.design_problem.proofs.GreatestSums.{small_term_read, summed_more, summed_all}
use Rattle.design_problem.proofs.greatest.greatest_over.Goals as goal

pub greatest_term-requires : goal.greatest_term-requires
greatest_term-requires c = small_term_read c.args.form.now c.terms-terms.result.now c.loop-term.term-index _
    c.terms-terms.ensures.terms c.requires.sizes c.loop-term-test.true

pub loop-term-preserved : goal.loop-term-preserved
loop-term-preserved c =
    let fits : SFits w64 c.greatest_term.result = search rules in
    let wide_fits : SFits w128 c.from-sum-in-loop-term.result = search rules in
    let read = to_z-of_z w128 c.from-sum-in-loop-term.result wide_fits ∙ c.from-sum-in-loop-term.ensures ∙ to_z-of_z w64 c.greatest_term.result fits in
    let sum_fits : SFits w128 (to_z w128 c.loop-term.sum-bits +ℤ to_z w128 (of_z w128 c.from-sum-in-loop-term.result)) = search rules in
    let next = to_z-of_z w128 _ sum_fits in
    summed_more c.args.form.now c.as_slice-low.result.now c.as_slice-high.result.now c.terms-terms.result.now
    c.loop-term.term-index _ (to_z w128 c.loop-term.sum-bits) _ _
    c.terms-terms.ensures.terms c.requires.sizes c.loop-term-test.true
    (read ∙ c.greatest_term.ensures.value) (subst (λ n. n ≤ 2 ^ 42) (sym (ap nat_abs read)) c.greatest_term.ensures.size) next c.loop-term.invariant

pub returns : goal.returns
returns c =
    let low = c.as_slice-low.result.now in
    let high = c.as_slice-high.result.now in
    summed_all c.args.form.now low high c.terms-terms.result.now c.loop-term.term-index _ c.terms-terms.ensures.terms
    (c.requires.low ∙ sym (ap length c.as_slice-low.ensures)) (c.requires.high
    ∙ sym (ap length c.as_slice-high.ensures)) c.loop-term-test.false c.loop-term.invariant
    ∙ ap (λ (ls : List ℕ). c.args.form.now.constant +ℤ upper_sum c.args.form.now.coefficients ls high) c.as_slice-low.ensures
    ∙ ap (λ (hs : List ℕ). c.args.form.now.constant +ℤ upper_sum c.args.form.now.coefficients c.args.costs.now.low hs) c.as_slice-high.ensures
