use Rattle.std.proofs.Common.{◌≡◌}
use Rattle.std.specs.Prelude.{vec_len}
use Rattle.design_problem.specs.Stack.{IsStack, open_boxes_of}
use Rattle.design_problem.proofs.open_boxes.put_back.Given as goal

abbrev pub invariant-loop-change : goal.invariant-loop-change
invariant-loop-change l = record {
  same : (open_boxes_of l.costs l.changes.items).behind ≡ (open_boxes_of l.initial.costs l.initial.changes.items).behind;
  stack : IsStack l.costs l.changes.items;
}

abbrev pub decreases-loop-change : goal.decreases-loop-change
decreases-loop-change l = vec_len l.changes
