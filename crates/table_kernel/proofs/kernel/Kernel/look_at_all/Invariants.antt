-- The variables before the counter were looked at, and nothing but the columns that are left has changed.
use Rattle.std.proofs.Common.{◌≡◌}
use Rattle.std.specs.Prelude.{vec_capacity}
use Rattle.table_kernel.specs.Choices.{HasColumnsLeft}
use Rattle.table_kernel.proofs.kernel.Kernel.look_at_all.Given as goal

abbrev pub invariant-loop-var : goal.invariant-loop-var
invariant-loop-var l = record {
  left : HasColumnsLeft l.self l.var;
  room : vec_capacity l.self.left ≡ vec_capacity l.fn.self.left;
  keeps : l.self ≡ record l.fn.self { left = l.self.left };
}
