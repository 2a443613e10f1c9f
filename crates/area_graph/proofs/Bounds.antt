-- How much a simple path can cost.
use Rattle.std.proofs.Common.{◌≡◌, ℕ, ◌+◌, ◌*◌, ◌^◌, ◌<◌, ◌≤◌, refl, sym, ◌∙◌, ap, subst, List, [], ◌∷◌, length, get_or, set, count_by, cond, inl, inr, Bool, true, false, arith}
use Rattle.std.proofs.Common.{get_or-set_other, length-set}
use Rattle.std.proofs.Math.Nat.{mul-le-mul_right}
use Rattle.std.proofs.lemmas.List.Sums.{sum_by-cons, sum_by-set}
use Rattle.cost_base.specs.Lists.{Has, NoneTwice}
use Rattle.cost_base.proofs.ListLemmas.{has_lacks}
use Rattle.area_graph.specs.declared.Point.{Point}
use Rattle.area_graph.specs.declared.Vertex.{Vertex}
use Rattle.area_graph.specs.declared.Vertex.TheVariants.{Router, Subnet}
use Rattle.area_graph.specs.declared.Price.{Price}
use Rattle.area_graph.specs.declared.Price.TheVariants.{Fixed, Var, Zero}
use Rattle.area_graph.specs.Area.{Area, edge_at, no_edge, vertex_at, is_vertex_of_router, FitsGraph, FitsEdge, FitsSource, IsMetric, HasMetrics}
use Rattle.area_graph.specs.Paths.{Joins, visited}
use Rattle.area_graph.specs.Costs.{price_at, cost, IsPriced, FitsPoint}

-- a list with one element that passes no more counts one less
pub count_less : (vs : List Vertex) (i : ℕ) (v : Vertex) → i < length vs → is_vertex_of_router (get_or vs i (Router 0)) ≡ true →
    is_vertex_of_router v ≡ false → count_by is_vertex_of_router (set vs i v) + 1 ≡ count_by is_vertex_of_router vs
count_less vs i v within was now =
    let step = sum_by-set (λ x. cond (is_vertex_of_router x) 1 0) vs i v (Router 0) within in
    let counted : Bool → ℕ = λ b. cond b 1 0 in
    let one : counted (is_vertex_of_router (get_or vs i (Router 0))) ≡ counted true = ap counted was in
    let nothing : counted (is_vertex_of_router v) ≡ counted false = ap counted now in
    omega (arith, step, one, nothing)

-- no price is above the greatest interface cost
pub price-le : (g : Area) (p : Point) (price : Price) → FitsPoint g p → IsMetric price → IsPriced (length p.values) price → price_at p price ≤ 65535 * p.scale
price-le g p (Fixed c) fits short known = mul-le-mul_right p.scale short
price-le g p (Var v) fits short known = fits.most v 0 known
price-le g p Zero fits short known = omega arith

-- an edge out of a subnet costs nothing
free_out : (p : Point) (price : Price) (n : ℕ) → FitsSource (Subnet n) price → price_at p price ≡ 0
free_out p (Fixed c) n source = absurd source
free_out p (Var v) n source = absurd source
free_out p Zero n source = refl

one_more : (price rest count most : ℕ) → price ≤ most → rest ≤ count * most → price + rest ≤ (count + 1) * most
one_more price rest count most first later = omega arith

-- the first edge of a path and the rest of it
step-le : (g : Area) (p : Point) (vs : List Vertex) (s e : ℕ) (es : List ℕ) → FitsGraph g → HasMetrics g →
    FitsPoint g p → length vs ≡ length g.vertices → get_or vs s (Router 0) ≡ vertex_at g s → e < length g.edges →
    (edge_at g e).from ≡ s → cost g p es ≤ count_by is_vertex_of_router vs * (65535 * p.scale) →
    cost g p es ≤ count_by is_vertex_of_router (set vs s (Subnet 0)) * (65535 * p.scale) →
    cost g p (e ∷ es) ≤ count_by is_vertex_of_router vs * (65535 * p.scale)
step-le g p vs s e es graph metrics fits same mark known from after_subnet after_router = by_source (vertex_at g s) refl
  where
    edge : FitsEdge g (edge_at g e)
    edge = graph.edges e no_edge known

    within : s < length vs
    within = let start : s < length g.vertices = subst (λ (v : ℕ). v < length g.vertices) from edge.from in omega arith

    longer : cost g p (e ∷ es) ≡ price_at p (edge_at g e).price + cost g p es
    longer = sum_by-cons (λ i. price_at p (edge_at g i).price) e es

    by_source : (v : Vertex) → vertex_at g s ≡ v → cost g p (e ∷ es) ≤ count_by is_vertex_of_router vs * (65535 * p.scale)
    by_source (Router n) is =
        let first = price-le g p (edge_at g e).price fits (metrics e no_edge known) (fits.priced e no_edge known) in
        let less = count_less vs s (Subnet 0) within (ap is_vertex_of_router (mark ∙ is)) refl in
        let both = one_more (price_at p (edge_at g e).price) (cost g p es) (count_by is_vertex_of_router (set vs s (Subnet 0))) (65535 * p.scale) first
        after_router in
        subst (λ (n : ℕ). cost g p (e ∷ es) ≤ n * (65535 * p.scale)) less
        (subst (λ (c : ℕ). c ≤ (count_by is_vertex_of_router (set vs s (Subnet 0)) + 1) * (65535 * p.scale))
        (sym longer) both)
    by_source (Subnet n) is =
        let none = free_out p (edge_at g e).price n (subst (λ (v : Vertex). FitsSource v (edge_at g e).price) (ap (vertex_at g) from ∙ is) edge.price) in
        let whole : cost g p (e ∷ es) ≡ cost g p es = omega (arith, longer, none) in
        subst (λ (c : ℕ). c ≤ count_by is_vertex_of_router vs * (65535 * p.scale)) (sym whole) after_subnet

-- a path with no vertex twice costs at most the greatest interface cost for each router that it can leave
pub cost-le_routers : (g : Area) (p : Point) (vs : List Vertex) (s : ℕ) (es : List ℕ) (t : ℕ) → FitsGraph g →
    HasMetrics g → FitsPoint g p → length vs ≡ length g.vertices → Joins g s es t → NoneTwice (visited g s es) →
    ((v : ℕ) → Has (visited g s es) v → get_or vs v (Router 0) ≡ vertex_at g v) →
    cost g p es ≤ count_by is_vertex_of_router vs * (65535 * p.scale)
cost-le_routers g p vs s [] t graph metrics fits same joins once marks = omega arith
cost-le_routers g p vs s (e ∷ es) t graph metrics fits same joins once marks =
    step-le g p vs s e es graph metrics fits same (marks s (inl refl)) joins.0 joins.1
    (cost-le_routers g p vs (edge_at g e).to es t graph metrics fits same joins.2 once.1 (λ v has. marks v (inr has)))
    (cost-le_routers g p (set vs s (Subnet 0)) (edge_at g e).to es t graph metrics fits (length-set vs s (Subnet 0) ∙ same) joins.2 once.1
    (λ v has. get_or-set_other vs s v (Subnet 0) (Router 0)
    (λ back. has_lacks (visited g (edge_at g e).to es) s
    (subst (λ (x : ℕ). Has (visited g (edge_at g e).to es) x) back has) once.0) ∙ marks v (inr has)))

thousand : (count scale total : ℕ) → count ≤ 1000 → 1 ≤ scale → total ≤ count * (65535 * scale) → total < 2 ^ 26 * scale
thousand count scale total few above within = let most = mul-le-mul_right (65535 * scale) few in omega (arith, most)

-- a path with no vertex twice costs less than 2^26 times the scale
pub cost_below : (g : Area) (p : Point) (s : ℕ) (es : List ℕ) (t : ℕ) → FitsGraph g → HasMetrics g → FitsPoint g p →
    Joins g s es t → NoneTwice (visited g s es) → cost g p es < 2 ^ 26 * p.scale
cost_below g p s es t graph metrics fits joins once =
    thousand (count_by is_vertex_of_router g.vertices) p.scale (cost g p es) graph.routers fits.scale
    (cost-le_routers g p g.vertices s es t graph metrics fits refl joins once (λ v has. refl))
