-- The constants of the variables before the counter were put.
use Rattle.std.proofs.Common.{ℕ, ◌≡◌, ◌+◌, ◌<◌, ◌^◌, length}
use Rattle.std.specs.Prelude.{slice_index, slice_index_or}
use Rattle.whole_numbers.specs.Lists.{number_at}
use Rattle.integer_pivots.specs.Lines.{no_line}
use Rattle.integer_pivots.specs.Numbers.{AllWithin}
use Rattle.table_kernel.specs.Constants.{high_constant, line_constant}
use Rattle.table_kernel.proofs.constants.put_bound_constants.Given as goal

abbrev pub invariant-loop-var : goal.invariant-loop-var
invariant-loop-var l = record {
  count : length l.constants ≡ length l.initial.constants;
  low : (v : ℕ) → v < l.var → number_at l.constants v ≡ line_constant l.common (slice_index_or l.lines v no_line);
  high : (v : ℕ) → v < l.var → number_at l.constants (length l.low + v) ≡
      high_constant (slice_index l.low v) (slice_index l.high v) l.common (line_constant l.common (slice_index_or l.lines v no_line));
  small : AllWithin (2 ^ 62) l.initial.constants → AllWithin (2 ^ 62) l.constants;
}
