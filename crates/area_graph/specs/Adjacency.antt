-- The edges at a vertex, on one side of it. No public clause cites it.
use Rattle.std.specs.Prelude.{ℕ, ◌==◌, List, filter}
use Rattle.cost_base.specs.Lists.{numbers_from}
use Rattle.area_graph.specs.declared.Edge.{Edge}
use Rattle.area_graph.specs.declared.adjacency.Side.{Side}
use Rattle.area_graph.specs.declared.adjacency.Side.TheVariants.{Out, Into}
use Rattle.area_graph.specs.Area.{Area, edge_at}

-- the end of an edge at which it is listed
abbrev pub edge_end_on : Side → Edge → ℕ
edge_end_on Out edge = edge.from
edge_end_on Into edge = edge.to

-- of the first n edges those that are listed at a vertex
abbrev pub listed_below : ℕ → Side → Area → ℕ → List ℕ
listed_below n side g v = filter (λ e. edge_end_on side (edge_at g e) == v) (numbers_from 0 n)
