-- The multiple is that of the denominators before the counter.
use Rattle.std.proofs.Common.{◌≡◌, ◌≤◌}
use Rattle.std.specs.Prelude.{pos, nat_abs, take}
use Rattle.design_problem.specs.Steps.{lcm_of}
use Rattle.fraction_table.specs.Corners.{denominators_of}
use Rattle.fraction_table.proofs.table.Table.common_denominator.Given as goal

abbrev pub invariant-loop-var : goal.invariant-loop-var
invariant-loop-var l = record {
  so_far : l.multiple ≡ pos (lcm_of (take l.var (denominators_of l.self)));
  within : nat_abs l.multiple ≤ l.self.top;
}
