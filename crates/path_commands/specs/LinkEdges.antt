-- Which edges are of a link, in one direction or the other. No public clause cites it.
use Rattle.std.specs.Prelude.{ℕ, ◌+◌, ◌==◌, ◌&&◌, Bool, false, Option, None, Some}
use Rattle.area_graph.specs.declared.Edge.{Edge}
use Rattle.lsdb_build.specs.declared.Far.{Far}
use Rattle.lsdb_build.specs.declared.Far.TheVariants.{Router, Subnet}

-- whether the edge of this number is the link back, where there is one
abbrev pub is_link_back : Option ℕ → ℕ → Bool
is_link_back None e = false
is_link_back (Some m) e = e == m

-- the edge leads back to the router from where its link leads, if that is a transit subnet
abbrev pub leads_back : ℕ → Far → ℕ → Edge → Bool
leads_back routers (Router r) router edge = false
leads_back routers (Subnet s) router edge = edge.from == routers + s && edge.to == router
