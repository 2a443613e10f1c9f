use Rattle.std.proofs.Common.{◌≡◌, ◌<◌, ◌≤◌, ℕ, ap, ◌∙◌, SFits, rules}
use Rattle.std.specs.Prelude.{◌*ℤ◌, nat_abs, Any, Some}
use Rattle.std.proofs.lemmas.Int.{to_z-of_z}
use mir.Syntax.{w128}
use mir.Val.{to_z, of_z}
use Rattle.whole_numbers.specs.Fractions.{Fraction, gcd, times, numbers_of_product}
use Rattle.wide_fraction.specs.Widths.{IsExactOrTooWide}
use Rattle.wide_fraction.specs.contracts.fraction.Frac.{the_view}
use Rattle.wide_fraction.proofs.StepLemmas.{Crosses, Multiplies, moved, product_numerator_passes, product_denominator_passes, product_answer, product_kept}
use Rattle.wide_fraction.proofs.steps.fraction_product.Goals.{After-bounded_product, After-signed_quotient-right_part}
use Rattle.wide_fraction.proofs.steps.fraction_product.Goals as goal

-- what the common divisors leave of the numerators
crosses : (c : After-signed_quotient-right_part) →
    Crosses (the_view c.left.inside) (the_view c.right.inside) c.greatest_common_divisor-left_common.result
    c.greatest_common_divisor-right_common.result c.signed_quotient-left_part.result c.signed_quotient-right_part.result
crosses c =
    let left_fits : SFits w128 c.left.inside.numerator = search rules in
    let right_fits : SFits w128 c.right.inside.numerator = search rules in
    let left_part_fits : SFits w128 c.signed_quotient-left_part.result = search rules in
    let right_part_fits : SFits w128 c.signed_quotient-right_part.result = search rules in
    record {
      left_common = c.greatest_common_divisor-left_common.ensures.value
          ∙ ap (λ (n : ℕ). gcd n c.right.inside.denominator) (c.unsigned_abs.ensures.value
          ∙ ap nat_abs (to_z-of_z w128 c.left.inside.numerator left_fits));
      right_common = c.greatest_common_divisor-right_common.ensures.value
          ∙ ap (λ (n : ℕ). gcd n c.left.inside.denominator) (c.unsigned_abs-2.ensures.value
          ∙ ap nat_abs (to_z-of_z w128 c.right.inside.numerator right_fits));
      left = simp to_z-of_z at c.signed_quotient-left_part.ensures;
      right = simp to_z-of_z at c.signed_quotient-right_part.ensures;
    }

-- the numerator is their product, and within the top
above_is : (c : After-bounded_product) →
    (to_z w128 (of_z w128 c.in-Some.numerator)
    ≡ (c.signed_quotient-left_part.result *ℤ c.signed_quotient-right_part.result))
    × (nat_abs (c.signed_quotient-left_part.result *ℤ c.signed_quotient-right_part.result) ≤ c.size-most.result)
above_is c =
    let left_part_fits : SFits w128 c.signed_quotient-left_part.result = search rules in
    let right_part_fits : SFits w128 c.signed_quotient-right_part.result = search rules in
    let product_fits : SFits w128 c.in-Some.numerator = search rules in
    let above = simp to_z-of_z at c.in-Some.ensures in
    (to_z-of_z w128 c.in-Some.numerator product_fits ∙ above.0, above.1)

pub returns-in-None : goal.returns-in-None
returns-in-None c =
    let left_part_fits : SFits w128 c.signed_quotient-left_part.result = search rules in
    let right_part_fits : SFits w128 c.signed_quotient-right_part.result = search rules in
    let wide = simp to_z-of_z at c.in-None.ensures in
    moved (λ (t : ℕ) (p q : Fraction). Any (λ n. t < n) (numbers_of_product p q)) c.size-most.result c.args.top _
    c.args.left _ c.args.right c.size-most.ensures.value c.left.view_is c.right.view_is
    (product_numerator_passes c.size-most.result _ _ _ _ _ _ (crosses (goal.at.returns-in-None c).After-signed_quotient-right_part) wide)

pub returns-in-None-bounded_product : goal.returns-in-None-bounded_product
returns-in-None-bounded_product c =
    moved (λ (t : ℕ) (p q : Fraction). Any (λ n. t < n) (numbers_of_product p q)) c.size-most.result c.args.top _
    c.args.left _ c.args.right c.size-most.ensures.value c.left.view_is c.right.view_is
    (product_denominator_passes c.size-most.result _ _ _ _ _ _ _ _
    (record {
      crosses = crosses (goal.at.returns-in-None-bounded_product c).After-signed_quotient-right_part;
      left = c.quotient-left_below.ensures;
      right = c.quotient-right_below.ensures;
    })
    c.in-None-bounded_product.ensures)

pub invariant_of-result : goal.invariant_of-result
invariant_of-result c =
    let above = above_is (goal.at.invariant_of-result c).After-bounded_product in
    let multiplies : Multiplies _ _ _ _ _ _ _ _ =
    record {
      crosses = crosses (goal.at.invariant_of-result c).After-signed_quotient-right_part;
      left = c.quotient-left_below.ensures;
      right = c.quotient-right_below.ensures;
    } in
    product_kept c.size-most.result _ _ _ _ _ _ _ _ _ _ c.size-most.ensures.within c.left.invariant.lowest
    c.right.invariant.lowest multiplies above.1 above.0 c.in-Some-bounded_product.ensures.0
    c.in-Some-bounded_product.ensures.1

pub returns-in-Some-bounded_product : goal.returns-in-Some-bounded_product
returns-in-Some-bounded_product c =
    let above = above_is (goal.at.returns-in-Some-bounded_product c).After-bounded_product in
    let multiplies : Multiplies _ _ _ _ _ _ _ _ =
    record {
      crosses = crosses (goal.at.returns-in-Some-bounded_product c).After-signed_quotient-right_part;
      left = c.quotient-left_below.ensures;
      right = c.quotient-right_below.ensures;
    } in
    moved (λ (t : ℕ) (p q : Fraction).
    IsExactOrTooWide t (numbers_of_product p q) (times p q)
    (Some (record {
      numerator = to_z w128 (of_z w128 c.in-Some.numerator);
      denominator = c.in-Some-bounded_product.denominator;
    }))) c.size-most.result c.args.top _ c.args.left _
    c.args.right c.size-most.ensures.value c.left.view_is c.right.view_is
    (product_answer c.size-most.result _ _ _ _ _ _ _ _ _ _ c.left.invariant.lowest c.right.invariant.lowest multiplies
    above.1 above.0 c.in-Some-bounded_product.ensures.0 c.in-Some-bounded_product.ensures.1)
