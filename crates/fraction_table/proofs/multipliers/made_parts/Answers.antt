-- One more multiplier is made whole.
use Rattle.std.proofs.Common.{sym, ◌∙◌, ap, subst, arith}
use Rattle.std.specs.Int.{w128}
use Rattle.std.specs.Prelude.{nat_abs, slice_index_or}
use Rattle.std.proofs.lemmas.Int.{to_z-of_z}
use Rattle.std.proofs.lemmas.Result.{err_from_is_err_and}
use Rattle.cost_base.specs.declared.StepName.TheVariants.{Mul}
use Rattle.whole_numbers.specs.Fractions.{Fraction, times, whole}
use Rattle.wide_fraction.specs.declared.steps.Wide.{Wide}
use Rattle.fraction_table.specs.Multipliers.{fractions}
use Rattle.fraction_lines.specs.Entries.{IsPassing}
use Rattle.fraction_table.proofs.MultiplierSteps.{all_more, made_next, made_wide, part_number, part_put, read_back, wide_multiplier}
use Rattle.fraction_lines.proofs.SmallNumbers.{top_small}
use Rattle.fraction_table.proofs.multipliers.made_parts.Goals as goal

pub mul-requires-clause-left_within : goal.mul-requires-clause-left_within
mul-requires-clause-left_within c =
    (part_number c.args.top c.args.parts.now c.loop-index.index c.index-parts-index-in-loop-index.result c.requires.numbers c.loop-index-test.true).within

pub returns-in_err-product-clause-wide : goal.returns-in_err-product-clause-wide
returns-in_err-product-clause-wide c =
    let p = err_from_is_err_and c.from_residual.result c.from_residual.ensures.1 in
    let wide = c.in_err-product.field-0.0 in
    rw (p.1, p.2)
    (wide_multiplier c.args.top (fractions c.args.parts.now) wide
    (made_wide c.args.parts.now c.loop-index.index c.index-parts-index-in-loop-index.result c.args.multiple wide c.loop-index-test.true c.requires.multiple
    (c.in_err-product.ensures.wide.named
    ∙ ap {B = Wide} (λ (q : Fraction).
    record {
      step = Mul;
      left =
          (slice_index_or c.args.parts.now c.loop-index.index c.index-parts-index-in-loop-index.result).1;
      right =
          q;
    }) (c.whole_wide.ensures ∙ ap whole (to_z-of_z w128 c.args.multiple c.ranges.multiple))))
    (subst (IsPassing c.args.top) (sym c.in_err-product.ensures.wide.named) c.in_err-product.ensures.wide.passes))

pub loop-index-preserved : goal.loop-index-preserved
loop-index-preserved c =
    let parts = c.args.parts.now in
    let d = c.index-parts-index-in-loop-index.result in
    let read = read_back c.numerator.result
    (omega (
      arith,
      ap nat_abs c.numerator.ensures.value,
      c.in_ok-product.ensures.within.numerator,
      top_small c.args.top c.value.ensures.width,
    )) in
    let size_is = c.unsigned_abs.ensures.value ∙ ap nat_abs (read ∙ c.numerator.ensures.value) in
    let put = part_put parts c.loop-index.index d c.index-parts-index.result c.loop-index.made.items
    c.push.new.self.items c.unsigned_abs.result (nat_abs c.in_ok-product.product.numerator) c.loop-index-test.true
    size_is c.in_ok-push.ensures.items in
    record {
      so_far = made_next parts c.loop-index.index d c.args.multiple c.loop-index.made.items c.push.new.self.items
          c.in_ok-product.product c.loop-index-test.true c.requires.multiple c.loop-index.invariant.so_far
          (c.in_ok-product.ensures.exact
          ∙ ap (times (slice_index_or parts c.loop-index.index d).1) (c.whole_wide.ensures
          ∙ ap whole (to_z-of_z w128 c.args.multiple c.ranges.multiple))) put;
      within = all_more c.args.top c.loop-index.made.items c.push.new.self.items
          ((slice_index_or parts c.loop-index.index d).0, nat_abs c.in_ok-product.product.numerator) put
          c.loop-index.invariant.within c.in_ok-product.ensures.within.numerator;
    }
