-- The sum of the differences before the index, by what is left of the whole.
use Rattle.std.proofs.Common.{◌≡◌, ◌*◌, ◌^◌}
use Rattle.std.specs.Prelude.{pos, ◌+ℤ◌, ◌≤ℤ◌}
use Rattle.table_kernel.specs.Moves.{distance_of}
use Rattle.table_kernel.proofs.Distances.{left_of}
use Rattle.table_kernel.proofs.moves.distance.Given as goal

abbrev pub invariant-loop-index : goal.invariant-loop-index
invariant-loop-index l = record {
  whole : l.sum +ℤ pos (left_of l.first l.second l.index) ≡ pos (distance_of l.first l.second);
  from_zero : pos 0 ≤ℤ l.sum;
  small : l.sum ≤ℤ pos (l.index * 2 ^ 27);
}
