use Rattle.std.proofs.Common.{◌≡◌, ℕ, ◌*◌, ◌/◌, sym, ◌∙◌, inl, inr, arith}
use Rattle.std.specs.Ordering.{nat_cmp}
use mathlib.Core.Path.{ap₂}
use Rattle.whole_numbers.proofs.Orders.{wholes_cmp, rests_cmp, zero_rest_cmp, reciprocals_cmp}
use Rattle.wide_fraction.proofs.order.cmp_sizes.Goals as goal

pub returns-then-first_whole-second_whole : goal.returns-then-first_whole-second_whole
returns-then-first_whole-second_whole c =
    let first_is = c.whole_and_rest-first_whole.ensures.whole in
    let second_is = c.whole_and_rest-second_whole.ensures.whole in
    c.cmp.ensures ∙ ap₂ nat_cmp first_is second_is
    ∙ wholes_cmp c.parts.first c.parts.first_below c.parts.second c.parts.second_below c.parts.invariant.first_positive
    c.parts.invariant.second_positive (λ e. c.if-first_whole-second_whole.true (first_is ∙ e ∙ sym second_is))
    ∙ c.parts.invariant.same_order

pub returns-then-first_rest-eq0 : goal.returns-then-first_rest-eq0
returns-then-first_rest-eq0 c =
    let b_positive = c.parts.invariant.first_positive in
    let d_positive = c.parts.invariant.second_positive in
    let same : c.parts.first / c.parts.first_below ≡ c.parts.second / c.parts.second_below =
    sym c.whole_and_rest-first_whole.ensures.whole ∙ c.if-first_whole-second_whole.false
    ∙ c.whole_and_rest-second_whole.ensures.whole in
    c.cmp-then-first_rest-eq0.ensures
    ∙ zero_rest_cmp _ _ c.parts.first_below c.parts.second_below b_positive d_positive (inl c.if-first_rest-eq0.true)
    ∙ ap₂ (λ (m n : ℕ). nat_cmp (m * c.parts.second_below) (n * c.parts.first_below))
    c.whole_and_rest-first_whole.ensures.rest c.whole_and_rest-second_whole.ensures.rest
    ∙ rests_cmp c.parts.first c.parts.first_below c.parts.second c.parts.second_below b_positive d_positive same
    ∙ c.parts.invariant.same_order

pub returns-then-second_rest-eq0 : goal.returns-then-second_rest-eq0
returns-then-second_rest-eq0 c =
    let b_positive = c.parts.invariant.first_positive in
    let d_positive = c.parts.invariant.second_positive in
    let same : c.parts.first / c.parts.first_below ≡ c.parts.second / c.parts.second_below =
    sym c.whole_and_rest-first_whole.ensures.whole ∙ c.if-first_whole-second_whole.false
    ∙ c.whole_and_rest-second_whole.ensures.whole in
    c.cmp-then-second_rest-eq0.ensures
    ∙ zero_rest_cmp _ _ c.parts.first_below c.parts.second_below b_positive d_positive (inr c.if-second_rest-eq0.true)
    ∙ ap₂ (λ (m n : ℕ). nat_cmp (m * c.parts.second_below) (n * c.parts.first_below))
    c.whole_and_rest-first_whole.ensures.rest c.whole_and_rest-second_whole.ensures.rest
    ∙ rests_cmp c.parts.first c.parts.first_below c.parts.second c.parts.second_below b_positive d_positive same
    ∙ c.parts.invariant.same_order

pub parts-preserved : goal.parts-preserved
parts-preserved c =
    let same : c.parts.first / c.parts.first_below ≡ c.parts.second / c.parts.second_below =
    sym c.whole_and_rest-first_whole.ensures.whole ∙ c.if-first_whole-second_whole.false
    ∙ c.whole_and_rest-second_whole.ensures.whole in
    record {
      first_positive = omega arith;
      second_positive = omega arith;
      same_order = ap₂ (λ (m n : ℕ). nat_cmp (c.parts.second_below * m) (c.parts.first_below * n))
          c.whole_and_rest-first_whole.ensures.rest c.whole_and_rest-second_whole.ensures.rest
          ∙ reciprocals_cmp c.parts.first c.parts.first_below c.parts.second c.parts.second_below
          c.parts.invariant.first_positive c.parts.invariant.second_positive same
          ∙ c.parts.invariant.same_order;
    }
