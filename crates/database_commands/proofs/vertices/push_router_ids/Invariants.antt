-- with the LSAs that are left it is what all of them add
use Rattle.std.proofs.Common.{◌≡◌, ◌++◌, drop}
use Rattle.database_commands.specs.Routes.{router_ids}
use Rattle.database_commands.proofs.vertices.push_router_ids.Given as goal

abbrev pub invariant-loop-lsa : goal.invariant-loop-lsa
invariant-loop-lsa l = l.ids.items ++ router_ids (drop l.lsa-index l.lsas) ≡ l.fn.ids.items ++ router_ids l.lsas
