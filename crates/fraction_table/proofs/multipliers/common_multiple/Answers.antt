-- One more denominator is taken.
use Rattle.std.proofs.Common.{◌≤◌, refl, sym, ◌∙◌, subst, nat_abs, arith}
use Rattle.std.specs.Prelude.{ℤ, pos, ◌<ℤ◌, slice_index_or}
use Rattle.std.proofs.lemmas.Int.{ints}
use Rattle.std.proofs.lemmas.Result.{err_from_is_err_and}
use Rattle.fraction_table.proofs.MultiplierSteps.{denominator_within, multiple_next, multiple_wide, part_number, positive_denominator, positive_multiple, read_back}
use Rattle.fraction_lines.proofs.SmallNumbers.{top_small, top_some}
use Rattle.fraction_table.proofs.multipliers.common_multiple.Goals as goal

pub loop-index-init : goal.loop-index-init
loop-index-init c = record { so_far = refl; positive = omega (arith, ints); within = top_some c.args.top c.value.ensures.width }

pub lcm-requires-clause-right_within : goal.lcm-requires-clause-right_within
lcm-requires-clause-right_within c =
    let number = part_number c.args.top c.args.parts.now c.loop-index.index c.index-parts-index.result c.requires.numbers c.loop-index-test.true in
    let within = denominator_within c.args.top
    (slice_index_or c.args.parts.now c.loop-index.index c.index-parts-index.result).1 c.denominator.result number
    c.denominator.ensures.value in
    subst (λ (z : ℤ). nat_abs z ≤ c.args.top) (sym (read_back c.denominator.result (omega (arith, within, top_small c.args.top c.value.ensures.width)))) within

pub returns-in_err-multiple-clause-step : goal.returns-in_err-multiple-clause-step
returns-in_err-multiple-clause-step c =
    let p = err_from_is_err_and c.from_residual.result c.from_residual.ensures.1 in
    let number = part_number c.args.top c.args.parts.now c.loop-index.index c.index-parts-index.result c.requires.numbers c.loop-index-test.true in
    let within = denominator_within c.args.top
    (slice_index_or c.args.parts.now c.loop-index.index c.index-parts-index.result).1 c.denominator.result number
    c.denominator.ensures.value in
    let read = read_back c.denominator.result (omega (arith, within, top_small c.args.top c.value.ensures.width)) in
    rw (p.1, p.2)
    (multiple_wide c.args.parts.now c.loop-index.index c.index-parts-index.result _ _ c.in_err-multiple.field-0.0
    c.loop-index-test.true c.loop-index.invariant.so_far (read ∙ c.denominator.ensures.value)
    c.in_err-multiple.ensures.wide.named)

pub loop-index-preserved : goal.loop-index-preserved
loop-index-preserved c =
    let number = part_number c.args.top c.args.parts.now c.loop-index.index c.index-parts-index.result c.requires.numbers c.loop-index-test.true in
    let within = denominator_within c.args.top
    (slice_index_or c.args.parts.now c.loop-index.index c.index-parts-index.result).1 c.denominator.result number
    c.denominator.ensures.value in
    let read = read_back c.denominator.result (omega (arith, within, top_small c.args.top c.value.ensures.width)) in
    let n = c.in_ok-multiple.multiple in
    let again = read_back n (omega (arith, c.in_ok-multiple.ensures.within, top_small c.args.top c.value.ensures.width)) in
    record {
      so_far = again ∙ multiple_next c.args.parts.now c.loop-index.index c.index-parts-index.result _ n _
          c.loop-index-test.true c.loop-index.invariant.so_far (read ∙ c.denominator.ensures.value)
          c.in_ok-multiple.ensures.exact;
      positive = subst (λ (z : ℤ). pos 0 <ℤ z) (sym again)
          (positive_multiple _ _ n c.loop-index.invariant.positive
          (positive_denominator c.args.top
          (slice_index_or c.args.parts.now c.loop-index.index c.index-parts-index.result).1 _ number
          (read ∙ c.denominator.ensures.value)) c.in_ok-multiple.ensures.exact);
      within = subst (λ (z : ℤ). nat_abs z ≤ c.args.top) (sym again) c.in_ok-multiple.ensures.within;
    }
