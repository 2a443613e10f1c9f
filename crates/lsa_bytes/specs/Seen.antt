-- Which LSAs were seen.
use Rattle.std.specs.Prelude.{◌≡◌, ℕ, List, count_by}
use Rattle.std.specs.List.{list_any}
use Rattle.std.specs.Ordering.{nat_cmp}
use Rattle.std.specs.BTreeSet.{contains, btree_set_len}
use Rattle.lsa_bytes.specs.declared.Lsa.{Lsa}
use Rattle.lsa_bytes.specs.declared.seen.Seen.{Seen}
use Rattle.lsa_bytes.specs.Databases.{is_router_lsa, is_router_of, is_network_of}

-- the look-ups have what names these LSAs, and nothing else
pub record HasSeen (seen : Seen) (lsas : List Lsa) : Type 0 where
  pub routers : (router : ℕ) → contains nat_cmp seen.routers router ≡ list_any (is_router_of router) lsas
  pub networks : (id : ℕ) → contains nat_cmp seen.networks id ≡ list_any (is_network_of id) lsas
  pub count : btree_set_len seen.routers ≡ count_by is_router_lsa lsas
