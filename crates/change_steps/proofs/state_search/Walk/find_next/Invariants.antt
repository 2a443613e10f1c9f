use Rattle.std.proofs.Common.{◌≡◌}
use Rattle.change_steps.specs.Search.{IsExplored, way_state}
use Rattle.change_steps.specs.Walks.{IsSearchWalk}
use Rattle.change_steps.proofs.state_search.Walk.find_next.Given as goal

abbrev pub invariant-loop-step : goal.invariant-loop-step
invariant-loop-step l = record {
  walk : IsSearchWalk l.held_rollout l.self;
  order : l.self.order.items ≡ l.fn.self.order.items;
  tested : l.self.tested ≡ l.fn.self.tested;
  explored : IsExplored l.held_rollout l.self.tested (way_state l.held_rollout l.self.order.items) l.step;
}
