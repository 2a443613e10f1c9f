-- What a path of a request is: some edges of the graph, no more than the graph has vertices.
use Rattle.std.proofs.Common.{◌≡◌, ℕ, zero, suc, ◌^◌, ◌<◌, ◌≤◌, refl, List, [], ◌∷◌, length, arith, rules, get_or, eqb}
use Rattle.std.specs.Prelude.{true, false, All, slice_get, Some}
use Rattle.std.specs.List.{list_any, AllByRecursion}
use Rattle.std.specs.List.{IsDistinct}
use Rattle.std.proofs.lemmas.Map.Steps.{length-le_from_distinct_below}
use Rattle.std.proofs.lemmas.Map.Keys.{IsDistinct-cons}
use Rattle.std.proofs.lemmas.List.{length-map}
use Rattle.std.proofs.lemmas.List.Folds.{Any-from_list_any}
use Rattle.std.proofs.lemmas.Bool.{ne_eqb, eqb-true}
use Rattle.cost_base.specs.Lists.{Lacks, NoneTwice}
use Rattle.cost_base.proofs.ListLemmas.{all_from_each}
use Rattle.area_graph.specs.Area.{Area, FitsGraph, edge_at, no_edge}
use Rattle.area_graph.proofs.Visits.{joined_known}
use Rattle.area_graph.specs.Paths.{Joins, IsSimple, Ends, IsPathOf, visited}
use Rattle.design_problem.specs.declared.problem.Request.{Request}
use Rattle.design_problem.specs.Problems.{request_ends}
use Rattle.design_problem.specs.Rows.{IsRouteOf}

apart : (x : ℕ) (ys : List ℕ) → Lacks ys x → AllByRecursion (λ y. eqb x y ≡ false) ys
apart x [] lacks = tt
apart x (y ∷ ys) lacks = (ne_eqb x y lacks.0, apart x ys lacks.1)

distinct : (xs : List ℕ) → NoneTwice xs → IsDistinct eqb xs
unfolding IsDistinct
distinct [] once = search rules
distinct (x ∷ xs) once = IsDistinct-cons eqb x xs (apart x xs once.0) (distinct xs once.1)

below_any : (n : ℕ) (vs : List ℕ) → AllByRecursion (λ v. v < n) vs → (q : ℕ) → list_any (eqb q) vs ≡ true → q < n
below_any n vs below q any =
    let found = Any-from_list_any (eqb q) vs any in
    let here = all_from_each (λ v. v < n) vs below found.0 found.1 found.2 in
    let same = eqb-true q found.1 found.4 in
    omega (arith, found.3)

-- different numbers below n are at most n
pub none_twice-le : (n : ℕ) (vs : List ℕ) → NoneTwice vs → AllByRecursion (λ v. v < n) vs → length vs ≤ n
none_twice-le n vs once below = length-le_from_distinct_below vs n (distinct vs once) (below_any n vs below)

-- the vertices that a path visits are the graph's
visited-below : (g : Area) (s : ℕ) (es : List ℕ) (t : ℕ) → FitsGraph g → s < length g.vertices → Joins g s es t →
    AllByRecursion (λ v. v < length g.vertices) (visited g s es)
visited-below g s [] t fits start joins = (start, tt)
visited-below g s (e ∷ es) t fits start joins =
    (start, visited-below g (edge_at g e).to es t fits (fits.edges e no_edge joins.0).to joins.2)

-- a simple path has fewer edges than the graph has vertices
pub simple-short : (g : Area) (s : ℕ) (es : List ℕ) (t : ℕ) → FitsGraph g → IsSimple g s es t → length es < length g.vertices
simple-short g s es t fits simple =
    let below = visited-below g s es t fits simple.start simple.joins in
    let few = none_twice-le (length g.vertices) (visited g s es) simple.none_twice below in
    let edges = length-map es (λ e. (edge_at g e).to) in
    omega arith

-- a path of a request has fewer than 2^32 edges
pub path-short : (g : Area) (ends : Ends) (es : List ℕ) → FitsGraph g → IsPathOf g ends es → length es < 2 ^ 32
path-short g ends es fits path =
    let few = simple-short g ends.start es ends.end fits path.simple in
    omega (arith, fits.vertex_count)

pub path-known : (g : Area) (ends : Ends) (es : List ℕ) → IsPathOf g ends es → All (λ e. e < length g.edges) es
path-known g ends es path = joined_known g ends.start es ends.end path.simple.joins

-- a route's request is one of the list, and the route is a path of it
pub record RequestOf (g : Area) (requests : List Request) (k : ℕ) (d : Request) (es : List ℕ) : Type 0 where
  pub within : k < length requests
  pub is_there : slice_get requests k ≡ Some (get_or requests k d)
  pub path : IsPathOf g (request_ends (get_or requests k d)) es

pub request_of_route : (g : Area) (requests : List Request) (k : ℕ) (d : Request) (es : List ℕ) → IsRouteOf g (slice_get requests k) es →
    RequestOf g requests k d es
request_of_route g [] k d es route = absurd route
request_of_route g (r ∷ rs) zero d es route = record { within = omega arith; is_there = refl; path = route }
request_of_route g (r ∷ rs) (suc k) d es route =
    let rest = request_of_route g rs k d es route in
    record { within = omega (arith, rest.within); is_there = rest.is_there; path = rest.path }
