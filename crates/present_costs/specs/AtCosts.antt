-- Graphs at costs, and the graph of an area whose links' costs are given one by one, as costs or as variables.
use Rattle.std.specs.Prelude.{ℕ, List, map, length, slice_index}
use Rattle.cost_base.specs.Lists.{numbers_from}
use Rattle.area_graph.specs.declared.Price.{Price}
use Rattle.area_graph.specs.declared.Price.TheVariants.{Fixed, Var, Zero}
use Rattle.area_graph.specs.Area.{Area}
use Rattle.lsdb_build.specs.Graphs.{Database, graph_at}

-- a price at costs
abbrev pub fixed_at : List ℕ → Price → Price
fixed_at w (Fixed cost) = Fixed cost
fixed_at w (Var v) = Fixed (slice_index w v)
fixed_at w Zero = Zero

-- a graph at costs
abbrev pub graph_with : List ℕ → Area → Area
graph_with w g =
    record {
      vertices = g.vertices;
      edges = map (λ edge. record { from = edge.from; to = edge.to; price = fixed_at w edge.price }) g.edges;
    }

-- the graph of an area in which each link has its cost
abbrev pub graph_at_costs : Database → List ℕ → Area
graph_at_costs d costs = graph_at d (map Fixed costs)

-- the graph of an area in which the cost of link l is the variable of number l
abbrev pub graph_by_links : Database → Area
graph_by_links d = graph_at d (map Var (numbers_from 0 (length d.links)))
