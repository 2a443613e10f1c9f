-- One more multiplier comes to the sum.
use Rattle.std.proofs.Common.{sym, ◌∙◌, ap, subst, arith}
use Rattle.std.specs.Prelude.{slice_index_or}
use Rattle.std.proofs.lemmas.Result.{err_from_is_err_and}
use Rattle.wide_fraction.specs.Widths.{IsWithin}
use Rattle.whole_numbers.specs.Fractions.{whole}
use Rattle.fraction_lines.specs.Entries.{IsPassing}
use Rattle.fraction_table.proofs.MultiplierSteps.{read_natural, sum_next, sum_wide}
use Rattle.fraction_lines.proofs.SmallNumbers.{top_small, top_some}
use Rattle.fraction_table.proofs.multipliers.sum_of_parts.Goals as goal

pub loop-index-init : goal.loop-index-init
loop-index-init c = record {
  so_far = c.whole-sum.ensures;
  within = subst (IsWithin c.args.top) (sym c.whole-sum.ensures)
      (record { numerator = omega arith; denominator = top_some c.args.top c.value.ensures.width });
}

pub add-requires-clause-right_within : goal.add-requires-clause-right_within
add-requires-clause-right_within c =
    let small = c.requires.within c.loop-index.index (0, 0) c.loop-index-test.true in
    let is = c.whole_wide.ensures ∙ ap whole
    (read_natural (slice_index_or c.args.parts.now c.loop-index.index (0, 0)).1
    (omega (arith, small, top_small c.args.top c.value.ensures.width))) in
    subst (IsWithin c.args.top) (sym is) (record { numerator = small; denominator = top_some c.args.top c.value.ensures.width })

pub returns-in_err-sum-clause-step : goal.returns-in_err-sum-clause-step
returns-in_err-sum-clause-step c =
    let p = err_from_is_err_and c.from_residual.result c.from_residual.ensures.1 in
    let small = c.requires.within c.loop-index.index (0, 0) c.loop-index-test.true in
    let is = c.whole_wide.ensures ∙ ap whole
    (read_natural (slice_index_or c.args.parts.now c.loop-index.index (0, 0)).1
    (omega (arith, small, top_small c.args.top c.value.ensures.width))) in
    rw (p.1, p.2)
    (sum_wide c.args.parts.now c.loop-index.index (0, 0) c.loop-index.sum c.whole_wide.result c.in_err-sum.field-0.0
    c.loop-index-test.true c.loop-index.invariant.so_far is c.in_err-sum.ensures.wide.named)

pub returns-in_err-sum-clause-passes : goal.returns-in_err-sum-clause-passes
returns-in_err-sum-clause-passes c =
    let p = err_from_is_err_and c.from_residual.result c.from_residual.ensures.1 in
    rw (p.1, p.2) (subst (IsPassing c.args.top) (sym c.in_err-sum.ensures.wide.named) c.in_err-sum.ensures.wide.passes)

pub loop-index-preserved : goal.loop-index-preserved
loop-index-preserved c =
    let small = c.requires.within c.loop-index.index (0, 0) c.loop-index-test.true in
    let is = c.whole_wide.ensures ∙ ap whole
    (read_natural (slice_index_or c.args.parts.now c.loop-index.index (0, 0)).1
    (omega (arith, small, top_small c.args.top c.value.ensures.width))) in
    record {
      so_far = sum_next c.args.parts.now c.loop-index.index (0, 0) c.loop-index.sum c.in_ok-sum.sum c.whole_wide.result
          c.loop-index-test.true c.loop-index.invariant.so_far is c.in_ok-sum.ensures.exact;
      within = c.in_ok-sum.ensures.within;
    }
