use Rattle.std.proofs.Common.{◌<◌, ℕ, sym, ◌∙◌, ap, subst, SFits, rules}
use Rattle.std.specs.Prelude.{ℤ, Any}
use Rattle.std.proofs.lemmas.Int.{to_z-of_z}
use mir.Syntax.{w128}
use Rattle.whole_numbers.specs.Fractions.{whole, numbers_of_sum}
use Rattle.wide_fraction.specs.Widths.{IsWithin}
use Rattle.wide_fraction.proofs.StepLemmas.{whole_answer, whole_sum_passes, whole_sum_answer}
use Rattle.wide_fraction.proofs.steps.whole_sum.Goals as goal

pub returns-in-None : goal.returns-in-None
returns-in-None c =
    let left_fits : SFits w128 c.args.left = c.ranges.left in
    let right_fits : SFits w128 c.args.right = c.ranges.right in
    let wide = simp to_z-of_z at c.in-None.ensures in
    subst (λ (t : ℕ). Any (λ n. t < n) (numbers_of_sum (whole c.args.left) (whole c.args.right))) c.size.ensures.value
    (whole_sum_passes c.size.result c.args.left c.args.right wide)

pub returns-in-Some : goal.returns-in-Some
returns-in-Some c =
    let left_fits : SFits w128 c.args.left = c.ranges.left in
    let right_fits : SFits w128 c.args.right = c.ranges.right in
    let sum_fits : SFits w128 c.in-Some.sum = search rules in
    let answer = simp to_z-of_z at c.in-Some.ensures in
    let left_within : IsWithin c.size.result (whole c.args.left) =
    subst (λ (t : ℕ). IsWithin t (whole c.args.left)) (sym c.size.ensures.value) c.requires.left_within in
    let right_within : IsWithin c.size.result (whole c.args.right) =
    subst (λ (t : ℕ). IsWithin t (whole c.args.right)) (sym c.size.ensures.value) c.requires.right_within in
    whole_answer c.size.result c.args.top (numbers_of_sum (whole c.args.left) (whole c.args.right)) _ c.whole_wide.result
    c.in-Some.sum c.size.ensures.value (c.whole_wide.ensures
    ∙ ap (λ (z : ℤ). whole z) (to_z-of_z w128 c.in-Some.sum sum_fits))
    (whole_sum_answer c.size.result c.args.left c.args.right c.in-Some.sum left_within right_within answer.0 answer.1)
