use Rattle.std.proofs.Common.{◌≡◌, filter}
use Rattle.cost_base.specs.Lists.{numbers_from}
use Rattle.area_graph.specs.Area.{edge_at}
use Rattle.change_steps.specs.Rollouts.{variables_of_step}
use Rattle.change_steps.specs.Reaches.{has_price}
use Rattle.change_steps.proofs.reach.edges_of_step.Given as goal

abbrev pub invariant-loop-number : goal.invariant-loop-number
invariant-loop-number l =
    l.edges.items ≡ filter (λ e. has_price (variables_of_step l.rollout.moves l.step) (edge_at l.rollout.graph e).price) (numbers_from 0 l.number)
