use Rattle.std.proofs.Common.{◌≡◌, map, take}
use Rattle.wanted_paths.proofs.names.router_set.Given as goal

abbrev pub invariant-loop-router : goal.invariant-loop-router
invariant-loop-router l = map (λ name. name.now) l.set.keys ≡ take l.router-index l.routers
