-- The constants of the rows before the counter were put.
use Rattle.std.proofs.Common.{ℕ, ◌≡◌, ◌+◌, ◌<◌, ◌^◌, length}
use Rattle.std.specs.Prelude.{slice_index_or}
use Rattle.whole_numbers.specs.Lists.{number_at}
use Rattle.design_problem.specs.Forms.{no_form}
use Rattle.integer_pivots.specs.Numbers.{AllWithin}
use Rattle.table_kernel.specs.Rows.{row_constant_of}
use Rattle.table_kernel.proofs.constants.put_row_constants.Given as goal

abbrev pub invariant-loop-row : goal.invariant-loop-row
invariant-loop-row l = record {
  count : length l.constants ≡ length l.initial.constants;
  bounds : (v : ℕ) → v < l.width + l.width → number_at l.constants v ≡ number_at l.initial.constants v;
  rows : (row : ℕ) → row < l.row → number_at l.constants (l.width + l.width + row) ≡
      row_constant_of l.common l.costs.low l.initial.constants (slice_index_or l.rows row no_form);
  small : AllWithin (2 ^ 62) l.initial.constants → AllWithin (2 ^ 62) l.constants;
}
