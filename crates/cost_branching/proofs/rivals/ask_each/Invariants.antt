use Rattle.cost_branching.specs.Asking.{AreAskedAmong}
use Rattle.cost_branching.specs.Rivals.{BeginWith}
use Rattle.cost_branching.proofs.rivals.ask_each.Given as goal

abbrev pub invariant-loop-request : goal.invariant-loop-request
invariant-loop-request l = record {
  asked : AreAskedAmong l.point l.request (record { problem = l.problem; rows = l.fn.rows.items }) l.fn.pool
      (record { problem = l.problem; rows = l.rows.items }) l.pool l.asked;
  more : BeginWith l.fn.rows.items l.rows.items;
}
