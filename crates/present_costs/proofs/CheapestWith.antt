-- Paths don't depend on prices: a path is only cheapest in a graph at costs where it is only cheapest in the graph
-- under them.
use Rattle.std.proofs.Common.{◌≡◌, ◌↔◌, ℕ, zero, suc, refl, sym, ◌∙◌, ap, subst, List, [], ◌∷◌, length, map, get_or, arith}
use Rattle.std.proofs.lemmas.List.{length-map}
use Rattle.std.proofs.lemmas.List.Sums.{sum_by-cons}
use Rattle.cost_base.specs.Lists.{NoneTwice}
use Rattle.area_graph.specs.declared.Price.{Price}
use Rattle.area_graph.specs.declared.Price.TheVariants.{Fixed, Var, Zero}
use Rattle.area_graph.specs.declared.Edge.{Edge}
use Rattle.area_graph.specs.Area.{Area, edge_at, no_edge}
use Rattle.area_graph.specs.Paths.{Joins, visited, Ends, IsPathOf}
use Rattle.area_graph.specs.Costs.{price_at, cost, at_costs, IsOnlyCheapest}
use Rattle.present_costs.specs.AtCosts.{fixed_at, graph_with}

-- an edge at costs
abbrev pub edge_with : List ℕ → Edge → Edge
edge_with w edge = record { from = edge.from; to = edge.to; price = fixed_at w edge.price }

get_with : (w : List ℕ) (edges : List Edge) (e : ℕ) → get_or (map (edge_with w) edges) e no_edge ≡ edge_with w (get_or edges e no_edge)
get_with w [] e = refl
get_with w (edge ∷ edges) zero = refl
get_with w (edge ∷ edges) (suc e) = get_with w edges e

-- an edge keeps its ends and has its price at costs
pub edge_at_with : (w : List ℕ) (g : Area) (e : ℕ) → edge_at (graph_with w g) e ≡ edge_with w (edge_at g e)
edge_at_with w g e = get_with w g.edges e

from_with : (w : List ℕ) (g : Area) (e : ℕ) → (edge_at (graph_with w g) e).from ≡ (edge_at g e).from
from_with w g e = ap (λ (edge : Edge). edge.from) (edge_at_with w g e)

to_with : (w : List ℕ) (g : Area) (e : ℕ) → (edge_at (graph_with w g) e).to ≡ (edge_at g e).to
to_with w g e = ap (λ (edge : Edge). edge.to) (edge_at_with w g e)

edges_with : (w : List ℕ) (g : Area) → length (graph_with w g).edges ≡ length g.edges
edges_with w g = length-map {B = Edge} g.edges (edge_with w)

joins_with : (w : List ℕ) (g : Area) (s : ℕ) (es : List ℕ) (t : ℕ) → Joins g s es t → Joins (graph_with w g) s es t
joins_with w g s [] t joins = joins
joins_with w g s (e ∷ es) t joins = (
  let counted = edges_with w g in omega (arith, joins.0),
  from_with w g e ∙ joins.1,
  subst (λ (v : ℕ). Joins (graph_with w g) v es t) (sym (to_with w g e)) (joins_with w g (edge_at g e).to es t joins.2),
)

joins_without : (w : List ℕ) (g : Area) (s : ℕ) (es : List ℕ) (t : ℕ) → Joins (graph_with w g) s es t → Joins g s es t
joins_without w g s [] t joins = joins
joins_without w g s (e ∷ es) t joins = (
  let counted = edges_with w g in omega (arith, joins.0),
  sym (from_with w g e) ∙ joins.1,
  joins_without w g (edge_at g e).to es t (subst (λ (v : ℕ). Joins (graph_with w g) v es t) (to_with w g e) joins.2),
)

ends_with : (w : List ℕ) (g : Area) (es : List ℕ) → map (λ e. (edge_at (graph_with w g) e).to) es ≡ map (λ e. (edge_at g e).to) es
ends_with w g [] = refl
ends_with w g (e ∷ es) = cc (to_with w g e, ends_with w g es)

visited_with : (w : List ℕ) (g : Area) (s : ℕ) (es : List ℕ) → visited (graph_with w g) s es ≡ visited g s es
visited_with w g s es = ap (λ (vs : List ℕ). s ∷ vs) (ends_with w g es)

-- the simple paths of a request are the same
pub path_with : (w : List ℕ) (g : Area) (ends : Ends) (es : List ℕ) → IsPathOf g ends es ↔ IsPathOf (graph_with w g) ends es
path_with w g ends es = (
  λ path. record {
    simple = record {
      start = path.simple.start;
      end = path.simple.end;
      joins = joins_with w g ends.start es ends.end path.simple.joins;
      none_twice = subst (λ (vs : List ℕ). NoneTwice vs) (sym (visited_with w g ends.start es)) path.simple.none_twice;
    };
    kept = path.kept;
  },
  λ path. record {
    simple = record {
      start = path.simple.start;
      end = path.simple.end;
      joins = joins_without w g ends.start es ends.end path.simple.joins;
      none_twice = subst (λ (vs : List ℕ). NoneTwice vs) (visited_with w g ends.start es) path.simple.none_twice;
    };
    kept = path.kept;
  },
)

price_with : (w : List ℕ) (price : Price) → price_at (at_costs []) (fixed_at w price) ≡ price_at (at_costs w) price
price_with w (Fixed c) = refl
price_with w (Var v) = omega arith
price_with w Zero = refl

-- a path costs the same
pub cost_with : (w : List ℕ) (g : Area) (es : List ℕ) → cost (graph_with w g) (at_costs []) es ≡ cost g (at_costs w) es
cost_with w g [] = refl
cost_with w g (e ∷ es) =
    let here : price_at (at_costs []) (edge_at (graph_with w g) e).price ≡ price_at (at_costs w) (edge_at g e).price
    = ap (λ (edge : Edge). price_at (at_costs []) edge.price) (edge_at_with w g e) ∙ price_with w (edge_at g e).price in
    let rest = cost_with w g es in
    let left = sum_by-cons (λ i. price_at (at_costs []) (edge_at (graph_with w g) i).price) e es in
    let right = sum_by-cons (λ i. price_at (at_costs w) (edge_at g i).price) e es in
    left ∙ cc (here, rest) ∙ sym right

-- a path is only cheapest in the graph at costs exactly where it is under the costs
pub only_cheapest_with : (w : List ℕ) (g : Area) (ends : Ends) (es : List ℕ) →
    IsOnlyCheapest (graph_with w g) (at_costs []) ends es ↔ IsOnlyCheapest g (at_costs w) ends es
only_cheapest_with w g ends es = (
  λ only. record {
    path = (path_with w g ends es).1 only.path;
    others = λ other path differs.
        let less = only.others other ((path_with w g ends other).0 path) differs in
        let mine = cost_with w g es in
        let its = cost_with w g other in
        omega arith;
  },
  λ only. record {
    path = (path_with w g ends es).0 only.path;
    others = λ other path differs.
        let less = only.others other ((path_with w g ends other).1 path) differs in
        let mine = cost_with w g es in
        let its = cost_with w g other in
        omega arith;
  },
)
