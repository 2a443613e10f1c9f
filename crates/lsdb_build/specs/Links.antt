-- The links of linked interfaces: where each leads, and which leads back.
use Rattle.std.specs.Prelude.{ℕ, List, Option, Some, None, slice_get, unwrap_or}
use Rattle.interface_model.specs.declared.Kind.{Kind}
use Rattle.interface_model.specs.declared.Kind.TheVariants.{PointToPoint, Broadcast}
use Rattle.lsdb_build.specs.declared.Far.{Far}
use Rattle.lsdb_build.specs.declared.Far.TheVariants.{Router as ToRouter, Subnet as ToSubnet}
use Rattle.lsdb_build.specs.declared.Linked.{Linked}
use Rattle.lsdb_build.specs.Neighbours.{Port, shares_subnet, place_from, is_other}

-- the router of the link at a place; 0 where there is none
abbrev pub router_at : List Port → Option ℕ → ℕ
router_at links None = 0
router_at links (Some l) = router_of_port (slice_get links l)
  where
    router_of_port : Option Port → ℕ
    router_of_port None = 0
    router_of_port (Some p) = p.router

-- where a link leads, among linked interfaces and first members of transit subnets: over a point-to-point subnet to the
-- other member's router, else into the transit subnet
abbrev pub far_among : List Port → List Port → Port → Kind → Far
far_among links transit p PointToPoint = ToRouter (router_at links (place_from 0 (is_other p) links))
far_among links transit p Broadcast = ToSubnet (unwrap_or (place_from 0 (shares_subnet p) transit) 0)

-- the number of the link back of an interface, where it is on a point-to-point subnet, among linked interfaces
abbrev pub link_back_among : List Port → Port → Kind → Option ℕ
link_back_among links p PointToPoint = place_from 0 (is_other p) links
link_back_among links p Broadcast = None

-- the link of an interface: its router, name, line and cost, where it leads, and the link that leads back
abbrev pub link_among : List Port → List Port → Port → Linked
link_among links transit p =
    record {
      router = p.router;
      interface = p.interface.name;
      line = p.interface.line;
      cost = p.interface.cost;
      to = far_among links transit p p.interface.kind;
      link_back = link_back_among links p p.interface.kind;
    }
