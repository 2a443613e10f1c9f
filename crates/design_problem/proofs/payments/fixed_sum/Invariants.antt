use Rattle.std.proofs.Common.{◌≡◌, ◌*◌, ◌≤◌, take}
use Rattle.design_problem.specs.Rows.{fixed_cost}
use Rattle.design_problem.proofs.payments.fixed_sum.Given as goal

abbrev pub invariant-loop-e : goal.invariant-loop-e
invariant-loop-e l = record {
  so_far : l.sum ≡ fixed_cost l.graph (take l.e-index l.path);
  small : l.sum ≤ 65536 * l.e-index;
}
