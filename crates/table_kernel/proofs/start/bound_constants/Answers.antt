-- One more range is put.
use Rattle.std.proofs.Common.{map, length, ◌^◌, ◌∙◌, ◌<◌, append-nil, subst, sym, rules, SFits, w64}
use Rattle.std.specs.Prelude.{pos, ◌-ℤ◌, nat_abs, slice_index}
use Rattle.std.proofs.lemmas.Int.{to_z-of_z}
use Rattle.cost_base.specs.Lists.{numbers_from}
use Rattle.cost_base.proofs.ListLemmas.{put_more}
use Rattle.table_kernel.proofs.StartNumbers.{within_more, zeros_within}
use Rattle.table_kernel.proofs.start.bound_constants.Goals as goal

pub loop-var-init : goal.loop-var-init
loop-var-init c = record {
  constants = c.in_ok-constants.ensures ∙ sym (append-nil _);
  small = zeros_within c.in_ok-constants.constants.items (2 ^ 27) (length c.as_slice-low.result.now) c.in_ok-constants.ensures;
}

pub loop-var-preserved : goal.loop-var-preserved
loop-var-preserved c =
    let low = c.as_slice-low.result.now in
    let high = c.as_slice-high.result.now in
    let fits : SFits w64 c.range_of.result = search rules in
    let same = to_z-of_z w64 c.range_of.result fits in
    record {
      constants = put_more (map (λ v. pos 0) (numbers_from 0 (length low))) c.loop-var.constants.items
          c.push.new.self.items (λ v. pos (slice_index high v) -ℤ pos (slice_index low v)) c.loop-var.var _
          c.in_ok-push.ensures.items c.loop-var.invariant.constants (same ∙ c.range_of.ensures.range);
      small = within_more (2 ^ 27) c.loop-var.constants.items c.push.new.self.items _ c.in_ok-push.ensures.items
          c.loop-var.invariant.small (subst (λ z. nat_abs z < 2 ^ 27) (sym same) c.range_of.ensures.small);
    }
