use Rattle.std.proofs.Common.{◌≡◌, ℕ, take}
use Rattle.std.specs.List.{list_any}
use Rattle.std.specs.Ordering.{nat_cmp}
use Rattle.std.specs.BTreeSet.{contains}
use Rattle.lsa_bytes.specs.Databases.{is_router_of}
use Rattle.live_area.proofs.interfaces.router_ids.Given as goal

-- the routers of the LSAs before are there
abbrev pub invariant-loop-lsa : goal.invariant-loop-lsa
invariant-loop-lsa l = (router : ℕ) → contains nat_cmp l.ids router ≡ list_any (is_router_of router) (take l.lsa-index l.lsas)
