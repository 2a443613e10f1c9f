use Rattle.std.proofs.Common.{ℕ, ◌+◌, ◌*◌, ◌^◌, ◌<◌, ◌∙◌, ap, sym, subst, length, rules, SFits, get_or, List}
use Rattle.std.specs.Int.{w128}
use Rattle.std.specs.Prelude.{ℤ, ◌+ℤ◌, nat_abs, sum_by}
use Rattle.std.proofs.lemmas.Int.{to_z-of_z}
use Rattle.design_problem.specs.Boxes.{upper_sum}
use Rattle.design_problem.specs.Forms.{weighted, IsSmallForm}
use Rattle.evidence_checker.proofs.Sizes.{negative_iff}
use Rattle.design_problem.proofs.PartLaws.{made_fits, made_greatest}
use Rattle.evidence_checker.proofs.sums.refutes.Goals as goal

pub greatest_sum-requires-clause-size : goal.greatest_sum-requires-clause-size
greatest_sum-requires-clause-size c =
    let n = length c.fill.new.self in
    let fits : SFits w128 c.add_parts-constant.result = search rules in
    subst (λ (z : ℤ). nat_abs z + 65535 * sum_by nat_abs c.add_parts-constant.new.sums < 2 ^ 127) (sym (to_z-of_z w128 c.add_parts-constant.result fits))
    (made_fits n c.args.forms.now c.args.parts.now c.add_parts-constant.result c.add_parts-constant.new.sums
    (λ k d k_in. subst (λ (m : ℕ). IsSmallForm m (get_or c.args.forms.now k d)) (sym c.fill.ensures.len) (c.requires.forms k d k_in))
    c.requires.sum c.add_parts-constant.auto.sums c.add_parts-constant.ensures.constant c.add_parts-constant.ensures.coefficients)

pub returns : goal.returns
returns c =
    let n = length c.fill.new.self in
    let forms = c.args.forms.now in
    let whole = weighted forms c.args.parts.now in
    let fits : SFits w128 c.add_parts-constant.result = search rules in
    let result_fits : SFits w128 c.greatest_sum.result = search rules in
    negative_iff _ _
    (to_z-of_z w128 c.greatest_sum.result result_fits ∙ c.greatest_sum.ensures
    ∙ made_greatest n forms c.args.parts.now _ c.add_parts-constant.new.sums c.as_slice.result.now c.as_slice-2.result.now
    (λ k d k_in. subst (λ (m : ℕ). IsSmallForm m (get_or forms k d)) (sym c.fill.ensures.len) (c.requires.forms k d k_in))
    c.add_parts-constant.auto.sums (to_z-of_z w128 c.add_parts-constant.result fits
    ∙ c.add_parts-constant.ensures.constant) c.add_parts-constant.ensures.coefficients
    ∙ ap (λ (ls : List ℕ). whole.constant +ℤ upper_sum whole.coefficients ls c.as_slice-2.result.now) c.as_slice.ensures
    ∙ ap (λ (hs : List ℕ). whole.constant +ℤ upper_sum whole.coefficients c.args.costs.now.low hs) c.as_slice-2.ensures)
