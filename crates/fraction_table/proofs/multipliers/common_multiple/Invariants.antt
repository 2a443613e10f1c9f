-- The multiple is that of the denominators before the index.
use Rattle.std.proofs.Common.{◌≡◌, ◌≤◌}
use Rattle.std.specs.Prelude.{pos, ◌<ℤ◌, nat_abs, take}
use Rattle.design_problem.specs.Steps.{denominators, lcm_of}
use Rattle.fraction_table.specs.Multipliers.{fractions}
use Rattle.fraction_table.proofs.multipliers.common_multiple.Given as goal

abbrev pub invariant-loop-index : goal.invariant-loop-index
invariant-loop-index l = record {
  so_far : l.multiple ≡ pos (lcm_of (take l.index (denominators (fractions l.parts))));
  positive : pos 0 <ℤ l.multiple;
  within : nat_abs l.multiple ≤ l.top;
}
