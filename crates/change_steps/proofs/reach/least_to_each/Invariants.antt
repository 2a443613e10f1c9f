use Rattle.std.proofs.Common.{◌≡◌, length}
use Rattle.area_graph.specs.Costs.{at_costs}
use Rattle.spf_ties.specs.Distances.{IsRoomFor}
use Rattle.change_steps.specs.Reaches.{AreLeastToEach, least_costs}
use Rattle.change_steps.proofs.reach.least_to_each.Given as goal

abbrev pub invariant-loop-target : goal.invariant-loop-target
invariant-loop-target l = record {
  room : IsRoomFor l.rollout.graph l.room;
  count : length l.least.items ≡ l.target;
  least : AreLeastToEach l.rollout.graph (at_costs (least_costs l.rollout.moves)) l.least.items;
}
