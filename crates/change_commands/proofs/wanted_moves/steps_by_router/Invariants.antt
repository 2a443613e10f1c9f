-- the steps of the routers so far
use Rattle.std.proofs.Common.{◌≡◌}
use Rattle.cost_base.specs.Lists.{numbers_from}
use Rattle.change_commands.specs.WantedMoves.{router_steps}
use Rattle.change_commands.proofs.wanted_moves.steps_by_router.Given as goal

abbrev pub invariant-loop-router : goal.invariant-loop-router
invariant-loop-router l = l.steps.items ≡ router_steps l.names.links l.moved (numbers_from 0 l.router)
