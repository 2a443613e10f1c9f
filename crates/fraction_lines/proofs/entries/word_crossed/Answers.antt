-- The product and the difference are those of the words.
use Rattle.std.proofs.Common.{◌≡◌, ◌∙◌, ap, SFits, rules}
use Rattle.std.specs.Prelude.{ℤ}
use Rattle.std.proofs.lemmas.Int.{to_z-of_z}
use mir.Syntax.{w64, w128}
use Rattle.whole_numbers.specs.Fractions.{whole}
use Rattle.fraction_lines.proofs.ZeroFractions.{short_value}
use Rattle.fraction_lines.proofs.SmallNumbers.{top_some}
use Rattle.fraction_lines.proofs.entries.word_crossed.Goals as goal

pub returns-in-Some-bounded_difference : goal.returns-in-Some-bounded_difference
returns-in-Some-bounded_difference c =
    let product = c.in-Some.product in
    let value = c.in-Some-bounded_difference.value in
    let product_fits : SFits w128 product = search rules in
    let value_fits : SFits w128 value = search rules in
    let from_fits : SFits w128 c.from.result = search rules in
    let old_fits : SFits w64 c.args.old = c.ranges.old in
    let factor_fits : SFits w64 c.args.factor = c.ranges.factor in
    let quotient_fits : SFits w64 c.args.quotient = c.ranges.quotient in
    let product_is = simp to_z-of_z at c.in-Some.ensures in
    let difference = simp to_z-of_z at c.in-Some-bounded_difference.ensures in
    let made : c.whole_wide.result ≡ whole value = c.whole_wide.ensures ∙ ap (λ (z : ℤ). whole z) (to_z-of_z w128 value value_fits) in
    short_value c.args.top c.size-in-Some.result c.args.old c.args.factor c.args.quotient product value c.from.result
    c.whole_wide.result made product_is difference.0 (c.from.ensures ∙ to_z-of_z w64 c.args.old old_fits)
    difference.1 c.size-in-Some.ensures.value
    (top_some c.args.top c.value.ensures.width)
