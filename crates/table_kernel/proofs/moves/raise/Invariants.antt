-- The lines before the counter have risen, the others are as before.
use Rattle.std.proofs.Common.{ℕ, ◌≡◌, ◌<◌, ◌≤◌, length}
use Rattle.std.specs.Prelude.{slice_index_or}
use Rattle.integer_pivots.specs.Lines.{no_line}
use Rattle.table_kernel.specs.Moves.{raised_kernel_line}
use Rattle.table_kernel.proofs.moves.raise.Given as goal

abbrev pub invariant-loop-var : goal.invariant-loop-var
invariant-loop-var l = record {
  count : length l.lines ≡ length l.initial.lines;
  done : (v : ℕ) → v < l.var → slice_index_or l.lines v no_line ≡ raised_kernel_line l.column l.fall (slice_index_or l.initial.lines v no_line);
  rest : (v : ℕ) → l.var ≤ v → slice_index_or l.lines v no_line ≡ slice_index_or l.initial.lines v no_line;
}
