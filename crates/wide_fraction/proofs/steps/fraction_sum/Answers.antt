use Rattle.std.proofs.Common.{◌≡◌, ◌<◌, ℕ, ap, ◌∙◌, SFits, rules}
use Rattle.std.specs.Prelude.{pos, ◌*ℤ◌, nat_abs, Any, Some}
use Rattle.std.proofs.lemmas.Int.{to_z-of_z}
use mir.Syntax.{w128}
use mir.Val.{to_z, of_z}
use Rattle.whole_numbers.specs.Fractions.{Fraction, gcd, exact_quotient, plus, numbers_of_sum}
use Rattle.wide_fraction.specs.Widths.{IsExactOrTooWide, IsCrossWithin}
use Rattle.wide_fraction.specs.contracts.fraction.Frac.{the_view}
use Rattle.wide_fraction.proofs.StepLemmas.{Adds, moved, sum_crossed, sum_denominator_passes, sum_answer, sum_kept}
use Rattle.wide_fraction.proofs.steps.fraction_sum.Goals.{After-bounded_product}
use Rattle.wide_fraction.proofs.steps.fraction_sum.Goals as goal

-- the sum, and what it shares with them
adds : (c : After-bounded_product) →
    Adds (the_view c.left.inside) (the_view c.right.inside) c.greatest_common_divisor-shared.result
    c.quotient-left_part.result c.quotient-right_part.result c.in-Some.sum c.greatest_common_divisor-common.result
    c.quotient.result
adds c =
    let left_fits : SFits w128 c.left.inside.numerator = search rules in
    let right_fits : SFits w128 c.right.inside.numerator = search rules in
    let sum_fits : SFits w128 c.in-Some.sum = search rules in
    let sum_is = simp to_z-of_z at c.in-Some.ensures in
    record {
      shares = record { common = c.greatest_common_divisor-shared.ensures.value; left = c.quotient-left_part.ensures; right = c.quotient-right_part.ensures };
      sum = sum_is.0;
      common = c.greatest_common_divisor-common.ensures.value
          ∙ ap (λ (n : ℕ). gcd n c.greatest_common_divisor-shared.result) (c.unsigned_abs.ensures.value
          ∙ ap nat_abs (to_z-of_z w128 c.in-Some.sum sum_fits));
      rest = c.quotient.ensures;
    }

-- the numbers on its way are within the top
sum_within : (c : After-bounded_product) →
    IsCrossWithin c.size-most.result (c.left.inside.numerator *ℤ pos c.quotient-right_part.result)
    (c.right.inside.numerator *ℤ pos c.quotient-left_part.result)
sum_within c =
    let left_fits : SFits w128 c.left.inside.numerator = search rules in
    let right_fits : SFits w128 c.right.inside.numerator = search rules in
    let sum_fits : SFits w128 c.in-Some.sum = search rules in
    let sum_is = simp to_z-of_z at c.in-Some.ensures in
    sum_is.1

pub returns-in-None : goal.returns-in-None
returns-in-None c =
    let left_fits : SFits w128 c.left.inside.numerator = search rules in
    let right_fits : SFits w128 c.right.inside.numerator = search rules in
    let wide = simp to_z-of_z at c.in-None.ensures in
    moved (λ (t : ℕ) (p q : Fraction). Any (λ n. t < n) (numbers_of_sum p q)) c.size-most.result c.args.top _ c.args.left
    _ c.args.right c.size-most.ensures.value c.left.view_is c.right.view_is
    (sum_crossed c.size-most.result _ _ _ _ _
    (record {
      common = c.greatest_common_divisor-shared.ensures.value;
      left = c.quotient-left_part.ensures;
      right = c.quotient-right_part.ensures;
    }) wide)

pub returns-in-None-bounded_product : goal.returns-in-None-bounded_product
returns-in-None-bounded_product c =
    moved (λ (t : ℕ) (p q : Fraction). Any (λ n. t < n) (numbers_of_sum p q)) c.size-most.result c.args.top _ c.args.left
    _ c.args.right c.size-most.ensures.value c.left.view_is c.right.view_is
    (sum_denominator_passes c.size-most.result _ _ _ _ _ _ _ _
    (adds (goal.at.returns-in-None-bounded_product c).After-bounded_product) c.in-None-bounded_product.ensures)

pub invariant_of-result : goal.invariant_of-result
invariant_of-result c =
    let at = (goal.at.invariant_of-result c).After-bounded_product in
    let sum_fits : SFits w128 c.in-Some.sum = search rules in
    let quotient_fits : SFits w128 c.signed_quotient.result = search rules in
    let top_is : to_z w128 (of_z w128 c.signed_quotient.result)
    ≡ exact_quotient c.in-Some.sum c.greatest_common_divisor-common.result =
    to_z-of_z w128 c.signed_quotient.result quotient_fits ∙ simp to_z-of_z at c.signed_quotient.ensures in
    sum_kept c.size-most.result _ _ _ _ _ _ _ _ _ _ c.size-most.ensures.within c.left.invariant.lowest
    c.right.invariant.lowest (adds at) (sum_within at) top_is c.in-Some-bounded_product.ensures.0
    c.in-Some-bounded_product.ensures.1

pub returns-in-Some-bounded_product : goal.returns-in-Some-bounded_product
returns-in-Some-bounded_product c =
    let at = (goal.at.returns-in-Some-bounded_product c).After-bounded_product in
    let sum_fits : SFits w128 c.in-Some.sum = search rules in
    let quotient_fits : SFits w128 c.signed_quotient.result = search rules in
    let top_is : to_z w128 (of_z w128 c.signed_quotient.result)
    ≡ exact_quotient c.in-Some.sum c.greatest_common_divisor-common.result =
    to_z-of_z w128 c.signed_quotient.result quotient_fits ∙ simp to_z-of_z at c.signed_quotient.ensures in
    moved (λ (t : ℕ) (p q : Fraction).
    IsExactOrTooWide t (numbers_of_sum p q) (plus p q)
    (Some (record {
      numerator = to_z w128 (of_z w128 c.signed_quotient.result);
      denominator = c.in-Some-bounded_product.denominator;
    }))) c.size-most.result c.args.top _ c.args.left _
    c.args.right c.size-most.ensures.value c.left.view_is c.right.view_is
    (sum_answer c.size-most.result _ _ _ _ _ _ _ _ _ _ c.left.invariant.lowest c.right.invariant.lowest (adds at)
    (sum_within at) top_is c.in-Some-bounded_product.ensures.0 c.in-Some-bounded_product.ensures.1)
