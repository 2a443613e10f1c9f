-- Vertices in a row, routers first and then subnets, and what an edge between given vertices keeps.
use Rattle.std.proofs.Common.{◌≡◌, ℕ, zero, suc, ◌+◌, ◌<◌, ◌≤◌, ◌++◌, List, [], ◌∷◌, cond, length, get_or, map, count_by, sym, refl, ap, ◌∙◌, arith, zero-add}
use Rattle.std.proofs.lemmas.List.{map_push, length-map, length-append, get_or-map, get_or_append_left, get_or-append-add}
use Rattle.std.proofs.lemmas.List.Sums.{count_by-le-length, sum_by-cons, sum_by-append}
use Rattle.cost_base.specs.Lists.{numbers_from}
use Rattle.cost_base.proofs.ListLemmas.{numbers_from-push, length-numbers_from, get_or-numbers_from}
use Rattle.area_graph.specs.declared.Vertex.{Vertex}
use Rattle.area_graph.specs.declared.Vertex.TheVariants.{Router, Subnet}
use Rattle.area_graph.specs.declared.Edge.{Edge}
use Rattle.area_graph.specs.Area.{is_vertex_of_router, vertices_of, FitsSource, FitsTarget}

-- what a function gives of the numbers below the next one
pub map-numbers_from-push : {X : Type 0} (f : ℕ → X) (n : ℕ) → map f (numbers_from 0 (n + 1)) ≡ map f (numbers_from 0 n) ++ f n ∷ []
map-numbers_from-push f n =
    ap (map f) (numbers_from-push 0 n ∙ ap (λ k. numbers_from 0 n ++ k ∷ []) (zero-add n)) ∙ map_push f (numbers_from 0 n) n

pub vertices_length : (r s : ℕ) → length (vertices_of r s) ≡ r + s
vertices_length r s =
    length-append (map Router (numbers_from 0 r)) (map Subnet (numbers_from 0 s))
    ∙ omega (arith, length-map (numbers_from 0 r) Router, length-map (numbers_from 0 s) Subnet, length-numbers_from 0 r, length-numbers_from 0 s)

pub router_vertex : (r s n : ℕ) → n < r → get_or (vertices_of r s) n (Router 0) ≡ Router n
router_vertex r s n below =
    let count = length-map (numbers_from 0 r) Router ∙ length-numbers_from 0 r in
    get_or_append_left (map Router (numbers_from 0 r)) (map Subnet (numbers_from 0 s)) (Router 0) n (omega (arith, count))
    ∙ get_or-map Router (numbers_from 0 r) n 0 (Router 0) (omega (arith, length-numbers_from 0 r))
    ∙ ap Router (get_or-numbers_from 0 r n 0 below ∙ zero-add n)

pub subnet_vertex : (r s n : ℕ) → n < s → get_or (vertices_of r s) (r + n) (Router 0) ≡ Subnet n
subnet_vertex r s n below =
    let count = length-map (numbers_from 0 r) Router ∙ length-numbers_from 0 r in
    ap (λ k. get_or (vertices_of r s) (k + n) (Router 0)) (sym count)
    ∙ get_or-append-add (map Router (numbers_from 0 r)) (map Subnet (numbers_from 0 s)) n (Router 0)
    ∙ get_or-map Subnet (numbers_from 0 s) n 0 (Router 0) (omega (arith, length-numbers_from 0 s))
    ∙ ap Subnet (get_or-numbers_from 0 s n 0 below ∙ zero-add n)

no_router : (a n : ℕ) → count_by is_vertex_of_router (map Subnet (numbers_from a n)) ≡ 0
no_router a zero = refl
no_router a (suc n) = omega (arith, sum_by-cons (λ v. cond (is_vertex_of_router v) 1 0) (Subnet a) (map Subnet (numbers_from (a + 1) n)), no_router (a + 1) n)

-- at most so many router vertices as routers
pub routers_count : (r s : ℕ) → count_by is_vertex_of_router (vertices_of r s) ≤ r
routers_count r s =
    omega (
      arith,
      sum_by-append (λ v. cond (is_vertex_of_router v) 1 0) (map Router (numbers_from 0 r))
          (map Subnet (numbers_from 0 s)),
      no_router 0 s,
      count_by-le-length is_vertex_of_router (map Router (numbers_from 0 r)),
      length-map (numbers_from 0 r) Router,
      length-numbers_from 0 r,
    )

-- what an edge of a graph keeps, over given vertices
pub record FitsVertices (vs : List Vertex) (edge : Edge) : Type 0 where
  pub from : edge.from < length vs
  pub to : edge.to < length vs
  pub price : FitsSource (get_or vs edge.from (Router 0)) edge.price
  pub target : FitsTarget (get_or vs edge.from (Router 0)) (get_or vs edge.to (Router 0))
