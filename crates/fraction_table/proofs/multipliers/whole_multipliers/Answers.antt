-- The parts in order of the rows are the multipliers, made whole.
use Rattle.std.proofs.Common.{◌^◌, ◌<◌, ℕ, sym, ◌∙◌, subst, List, rules}
use Rattle.std.specs.Prelude.{sum_by}
use Rattle.std.specs.List.Sorted.{IsPermutation}
use Rattle.std.proofs.lemmas.List.Sorted.{IsNonDecreasingBy-from_sort_by_key, sum_by-IsPermutation}
use Rattle.std.proofs.lemmas.Result.{err_from_is_err_and}
use Rattle.fraction_table.specs.Multipliers.{IsTallyStep, fractions, whole_multipliers, wholes}
use Rattle.fraction_table.proofs.MultiplierSteps.{wide_multiplier}
use Rattle.fraction_table.proofs.WholeParts.{parts_numbers, parts_positive, parts_rise, parts_sum, tally_step}
use Rattle.fraction_table.proofs.multipliers.whole_multipliers.Goals as goal

pub common_multiple-requires : goal.common_multiple-requires
common_multiple-requires c = record { numbers = parts_numbers c.args.top c.args.parts.now c.requires.parts }

pub returns-in_err-multiple-clause-wide : goal.returns-in_err-multiple-clause-wide
returns-in_err-multiple-clause-wide c =
    let p = err_from_is_err_and c.from_residual.result c.from_residual.ensures.1 in
    rw (p.1, p.2)
    (wide_multiplier c.args.top (fractions c.args.parts.now) c.in_err-multiple.field-0.0 c.in_err-multiple.ensures.step c.in_err-multiple.ensures.passes)

pub made_parts-requires-clause-numbers : goal.made_parts-requires-clause-numbers
made_parts-requires-clause-numbers c = parts_numbers c.args.top c.args.parts.now c.requires.parts

pub returns-in_err-made-clause-wide : goal.returns-in_err-made-clause-wide
returns-in_err-made-clause-wide c =
    let p = err_from_is_err_and c.from_residual-in_err-made.result c.from_residual-in_err-made.ensures.1 in
    rw (p.1, p.2) c.in_err-made.ensures.wide

pub check_sum-requires-clause-positive : goal.check_sum-requires-clause-positive
check_sum-requires-clause-positive c =
    subst (λ (ps : List (ℕ × ℕ)). 0 < sum_by (λ part. part.1) ps)
    (sym (c.as_slice.ensures.value ∙ c.in_ok-made.ensures.exact))
    (parts_sum c.args.top c.args.parts.now c.requires.parts)

pub returns-in_err-check_sum-clause-wide : goal.returns-in_err-check_sum-clause-wide
returns-in_err-check_sum-clause-wide c =
    let p = err_from_is_err_and c.from_residual-in_err-check_sum.result c.from_residual-in_err-check_sum.ensures.1 in
    let wide = c.in_err-check_sum.field-0.0 in
    rw (p.1, p.2)
    (wide_multiplier c.args.top (fractions c.args.parts.now) wide
    (tally_step c.args.top c.args.parts.now wide c.requires.parts
    (subst (λ (ps : List (ℕ × ℕ)). IsTallyStep (wholes ps) wide) (c.as_slice.ensures.value ∙ c.in_ok-made.ensures.exact) c.in_err-check_sum.ensures.step))
    c.in_err-check_sum.ensures.passes)

pub from_items-requires-clause-rising : goal.from_items-requires-clause-rising
from_items-requires-clause-rising c =
    let sorted = c.sort_unstable_by_key.new.self.items in
    let moved = subst (λ (ps : List (ℕ × ℕ)). IsPermutation ps sorted) c.in_ok-made.ensures.exact c.sort_unstable_by_key.ensures.permutation in
    parts_rise c.args.top c.args.parts.now sorted c.requires.parts moved
    (IsNonDecreasingBy-from_sort_by_key (λ (p : ℕ × ℕ). p.0) _ c.sort_unstable_by_key.ensures.sorted (λ a r q k. search rules))

pub from_items-requires-clause-positive : goal.from_items-requires-clause-positive
from_items-requires-clause-positive c =
    let sorted = c.sort_unstable_by_key.new.self.items in
    let moved = subst (λ (ps : List (ℕ × ℕ)). IsPermutation ps sorted) c.in_ok-made.ensures.exact c.sort_unstable_by_key.ensures.permutation in
    parts_positive c.args.top c.args.parts.now sorted c.requires.parts moved

pub returns-clause-made : goal.returns-clause-made
returns-clause-made c =
    subst (IsPermutation (whole_multipliers c.args.parts.now)) (sym c.from_items.ensures)
    (subst (λ (ps : List (ℕ × ℕ)). IsPermutation ps c.sort_unstable_by_key.new.self.items) c.in_ok-made.ensures.exact
    c.sort_unstable_by_key.ensures.permutation)

pub returns-clause-small : goal.returns-clause-small
returns-clause-small c =
    let sorted = c.sort_unstable_by_key.new.self.items in
    let same = sum_by-IsPermutation (λ (part : ℕ × ℕ). part.1) c.in_ok-made.made.items sorted c.sort_unstable_by_key.ensures.permutation in
    subst (λ (ps : List (ℕ × ℕ)). sum_by (λ part. part.1) ps < 2 ^ 100) (sym c.from_items.ensures)
    (subst (λ (n : ℕ). n < 2 ^ 100) (sym same)
    (subst (λ (ps : List (ℕ × ℕ)). sum_by (λ part. part.1) ps < 2 ^ 100) c.as_slice.ensures.value c.in_ok-check_sum.ensures.small))
