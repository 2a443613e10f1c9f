-- The multipliers before the index are made whole.
use Rattle.std.proofs.Common.{◌≡◌, ◌≤◌}
use Rattle.std.specs.Prelude.{map, take, All}
use Rattle.fraction_table.specs.Multipliers.{common_of, whole_multiplier}
use Rattle.fraction_table.proofs.multipliers.made_parts.Given as goal

abbrev pub invariant-loop-index : goal.invariant-loop-index
invariant-loop-index l = record {
  so_far : l.made.items ≡ map (whole_multiplier (common_of l.parts)) (take l.index l.parts);
  within : All (λ part. part.1 ≤ l.top) l.made.items;
}
