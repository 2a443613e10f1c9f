-- The zeros of x - low, and the ranges of the variables before the counter.
use Rattle.std.proofs.Common.{◌≡◌, pos, ◌-ℤ◌, ◌^◌, ◌++◌, map, length, slice_index}
use Rattle.cost_base.specs.Lists.{numbers_from}
use Rattle.integer_pivots.specs.Numbers.{AllWithin}
use Rattle.table_kernel.proofs.start.bound_constants.Given as goal

abbrev pub invariant-loop-var : goal.invariant-loop-var
invariant-loop-var l = record {
  constants : l.constants.items ≡ map (λ v. pos 0) (numbers_from 0 (length l.low))
      ++ map (λ v. pos (slice_index l.high v) -ℤ pos (slice_index l.low v)) (numbers_from 0 l.var);
  small : AllWithin (2 ^ 27) l.constants.items;
}
