use Rattle.std.proofs.Common.{ℕ, get_or, length, length-set, rules, ap, sym, subst, ◌∙◌, w64, SFits, to_z, of_z, List}
use Rattle.std.specs.Int.{w128}
use Rattle.std.specs.Prelude.{◌≤◌, ◌^◌, nat_abs, ◌+ℤ◌, slice_set}
use Rattle.std.proofs.lemmas.Int.{to_z-of_z}
use Rattle.design_problem.specs.Boxes.{upper_term, upper_sum}
use Rattle.design_problem.proofs.GreatestSums.{small_term_read, summed_more, summed_all}
use Rattle.design_problem.proofs.greatest.greatest_with.Goals as goal
use Rattle.design_problem.specs.Forms.{no_term}

pub greatest_term-requires : goal.greatest_term-requires
greatest_term-requires c = small_term_read c.args.form.now c.terms-terms.result.now c.loop-term.term-index _
    c.terms-terms.ensures.terms c.requires.sizes c.loop-term-test.true

pub loop-term-preserved : goal.loop-term-preserved
loop-term-preserved c =
    let t = get_or c.terms-terms.result.now c.loop-term.term-index no_term in
    let low : List ℕ = slice_set c.as_slice-low.result.now c.args.var c.args.low_end in
    let high : List ℕ = slice_set c.as_slice-high.result.now c.args.var c.args.high_end in
    let fits : SFits w64 c.greatest_term.result = search rules in
    let wide_fits : SFits w128 c.from-sum-in-loop-term.result = search rules in
    let read = to_z-of_z w128 c.from-sum-in-loop-term.result wide_fits ∙ c.from-sum-in-loop-term.ensures ∙ to_z-of_z w64 c.greatest_term.result fits in
    let sum_fits : SFits w128 (to_z w128 c.loop-term.sum-bits +ℤ to_z w128 (of_z w128 c.from-sum-in-loop-term.result)) = search rules in
    let next = to_z-of_z w128 _ sum_fits in
    summed_more c.args.form.now low high c.terms-terms.result.now c.loop-term.term-index _ (to_z w128 c.loop-term.sum-bits) _ _
    c.terms-terms.ensures.terms c.requires.sizes c.loop-term-test.true
    (read ∙ c.greatest_term.ensures.value
    ∙ ap (λ (x : ℕ). upper_term (to_z w64 (of_z w64 t.coefficient)) x c.end_at-most.result) c.end_at-least.ensures
    ∙ ap (λ (x : ℕ). upper_term (to_z w64 (of_z w64 t.coefficient)) (get_or low t.var 0) x) c.end_at-most.ensures)
    (subst (λ n. n ≤ 2 ^ 42) (sym (ap nat_abs read)) c.greatest_term.ensures.size) next c.loop-term.invariant

pub returns : goal.returns
returns c =
    let low : List ℕ = slice_set c.as_slice-low.result.now c.args.var c.args.low_end in
    let high : List ℕ = slice_set c.as_slice-high.result.now c.args.var c.args.high_end in
    summed_all c.args.form.now low high c.terms-terms.result.now c.loop-term.term-index _ c.terms-terms.ensures.terms
    (c.requires.low ∙ sym (ap length c.as_slice-low.ensures) ∙ sym (length-set c.as_slice-low.result.now c.args.var c.args.low_end))
    (c.requires.high ∙ sym (ap length c.as_slice-high.ensures) ∙ sym (length-set c.as_slice-high.result.now c.args.var c.args.high_end))
    c.loop-term-test.false c.loop-term.invariant
    ∙ ap (λ (ls : List ℕ). c.args.form.now.constant +ℤ upper_sum c.args.form.now.coefficients
    (slice_set ls c.args.var c.args.low_end) high) c.as_slice-low.ensures
    ∙ ap (λ (hs : List ℕ). c.args.form.now.constant +ℤ upper_sum c.args.form.now.coefficients
    (slice_set c.args.costs.now.low c.args.var c.args.low_end) (slice_set hs c.args.var c.args.high_end))
    c.as_slice-high.ensures
