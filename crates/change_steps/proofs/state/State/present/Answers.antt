use Rattle.std.proofs.Common.{◌∙◌, ap, sym}
use Rattle.area_graph.specs.Costs.{at_costs}
use Rattle.cost_base.specs.Marks.{is_marked}
use Rattle.change_steps.specs.Orders.{none_done}
use Rattle.change_steps.proofs.MarkLaws.{marks_same}
use Rattle.change_steps.proofs.StateLaws.{none_costs}
use Rattle.change_steps.proofs.state.State.present.Goals as goal

pub returns-clause-state : goal.returns-clause-state
returns-clause-state c = record {
  count = c.in_ok-done.ensures.counted ∙ c.step_count.ensures;
  point = c.in_ok-point.ensures ∙ ap at_costs (c.present.ensures
      ∙ sym (none_costs c.args.rollout.now.moves (is_marked c.in_ok-done.done.items) (λ k within. c.in_ok-done.ensures.none k)));
}

pub returns-clause-none : goal.returns-clause-none
returns-clause-none c =
    marks_same c.args.rollout.now none_done c.in_ok-done.done.items (c.in_ok-done.ensures.counted ∙ c.step_count.ensures)
    (λ k within. c.in_ok-done.ensures.none k)
