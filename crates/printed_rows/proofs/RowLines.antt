-- The line of a row is short enough: a simple path has at most two edges for each router, and one more.
use Rattle.std.proofs.Common.{◌≡◌, ℕ, ◌+◌, ◌*◌, ◌^◌, ◌<◌, ◌≤◌, refl, ◌∙◌, ap, subst, List, [], ◌∷◌, map, length, get_or, set, inl, inr, arith, length-set, get_or-set_other}
use Rattle.std.specs.Prelude.{codes, All, count_by, slice_get, slice_index_or, Option, None, Some}
use Rattle.std.proofs.lemmas.List.Elements.{All-head, All-tail}
use Rattle.cost_base.specs.Decimal.{decimal}
use Rattle.cost_base.specs.Lists.{Has, NoneTwice}
use Rattle.cost_base.proofs.ListLemmas.{has_lacks}
use Rattle.area_graph.specs.declared.Vertex.{Vertex}
use Rattle.area_graph.specs.declared.Vertex.TheVariants.{Router, Subnet}
use Rattle.area_graph.specs.Area.{Area, edge_at, no_edge, vertex_at, is_vertex_of_router, FitsGraph, FitsEdge, FitsTarget}
use Rattle.area_graph.specs.Paths.{Ends, IsPathOf, Joins, visited}
use Rattle.area_graph.proofs.Bounds.{count_less}
use Rattle.design_problem.specs.declared.form.Row.{Row}
use Rattle.design_problem.specs.declared.problem.Request.{Request}
use Rattle.design_problem.specs.Problems.{DesignProblem, IsProblem, request_ends, no_request}
use Rattle.design_problem.specs.Rows.{IsRow, IsRivalOf, IsRouteOf}
use Rattle.design_problem.specs.Text.{row_line, spaced}
use Rattle.design_problem.proofs.PathBounds.{path-known, request_of_route}
use Rattle.text_lines.proofs.WordLists.{room}
use Rattle.printed_rows.specs.FittingTexts.{IsTextLine}
use Rattle.printed_rows.proofs.TreeLines.{spaced-le, thing_digits}

-- one more edge may leave a subnet that the path starts at
abbrev extra : Vertex → ℕ
extra (Router n) = 0
extra (Subnet n) = 1

extra_small : (v : Vertex) → extra v ≤ 1
extra_small (Router n) = omega arith
extra_small (Subnet n) = omega arith

no_extra : (n : ℕ) (v : Vertex) → FitsTarget (Subnet n) v → extra v ≡ 0
no_extra n (Router m) fits = refl
no_extra n (Subnet m) fits = absurd fits

-- the first edge of a path and the rest of it
step_edges : (g : Area) (vs : List Vertex) (s e : ℕ) (es : List ℕ) → FitsGraph g → length vs ≡ length g.vertices →
    get_or vs s (Router 0) ≡ vertex_at g s → e < length g.edges → (edge_at g e).from ≡ s →
    length es ≤ 2 * count_by is_vertex_of_router vs + extra (vertex_at g (edge_at g e).to) →
    length es ≤ 2 * count_by is_vertex_of_router (set vs s (Subnet 0)) + extra (vertex_at g (edge_at g e).to) →
    length es + 1 ≤ 2 * count_by is_vertex_of_router vs + extra (vertex_at g s)
step_edges g vs s e es graph same mark known from after_subnet after_router = by_source (vertex_at g s) refl
  where
    edge : FitsEdge g (edge_at g e)
    edge = graph.edges e no_edge known

    within : s < length vs
    within = let start : s < length g.vertices = subst (λ (v : ℕ). v < length g.vertices) from edge.from in omega arith

    by_source : (v : Vertex) → vertex_at g s ≡ v → length es + 1 ≤ 2 * count_by is_vertex_of_router vs + extra (vertex_at g s)
    by_source (Router n) is =
        let less = count_less vs s (Subnet 0) within (ap is_vertex_of_router (mark ∙ is)) refl in
        let last = extra_small (vertex_at g (edge_at g e).to) in
        omega arith
    by_source (Subnet n) is =
        let target : FitsTarget (Subnet n) (vertex_at g (edge_at g e).to) =
        subst (λ (v : Vertex). FitsTarget v (vertex_at g (edge_at g e).to)) (ap (vertex_at g) from
        ∙ is) edge.target in
        let none = no_extra n (vertex_at g (edge_at g e).to) target in
        let one : extra (vertex_at g s) ≡ 1 = ap extra is in
        omega arith

-- a path with no vertex twice has at most two edges for each router, and one more
edges_le : (g : Area) (vs : List Vertex) (s : ℕ) (es : List ℕ) (t : ℕ) → FitsGraph g → length vs ≡ length g.vertices →
    Joins g s es t → NoneTwice (visited g s es) →
    ((v : ℕ) → Has (visited g s es) v → get_or vs v (Router 0) ≡ vertex_at g v) →
    length es ≤ 2 * count_by is_vertex_of_router vs + extra (vertex_at g s)
edges_le g vs s [] t graph same joins once marks = omega arith
edges_le g vs s (e ∷ es) t graph same joins once marks =
    let step = step_edges g vs s e es graph same (marks s (inl refl)) joins.0 joins.1
    (edges_le g vs (edge_at g e).to es t graph same joins.2 once.1 (λ v has. marks v (inr has)))
    (edges_le g (set vs s (Subnet 0)) (edge_at g e).to es t graph (length-set vs s (Subnet 0) ∙ same) joins.2 once.1
    (λ v has. get_or-set_other vs s v (Subnet 0) (Router 0)
    (λ back. has_lacks (visited g (edge_at g e).to es) s
    (subst (λ (x : ℕ). Has (visited g (edge_at g e).to es) x) back has) once.0) ∙ marks v (inr has))) in
    omega arith

path_edges-le : (g : Area) (ends : Ends) (es : List ℕ) → FitsGraph g → IsPathOf g ends es → length es ≤ 2001
path_edges-le g ends es graph path =
    let few = edges_le g g.vertices ends.start es ends.end graph refl path.simple.joins path.simple.none_twice (λ v has. refl) in
    let last = extra_small (vertex_at g ends.start) in
    omega (arith, graph.routers)

edges_room : (es : List ℕ) → All (λ e. e < 2 ^ 32) es → room (map decimal es) ≤ 11 * length es
edges_room [] small = omega arith
edges_room (e ∷ es) small =
    let here = thing_digits e (All-head (λ (e : ℕ). e < 2 ^ 32) e es small) in
    let rest = edges_room es (All-tail (λ (e : ℕ). e < 2 ^ 32) e es small) in
    omega arith

words_short : (request : ℕ) (es : List ℕ) → request < 2 ^ 32 → All (λ e. e < 2 ^ 32) es → length es ≤ 2001 →
    IsTextLine (spaced (codes "row" ∷ decimal request ∷ map decimal es))
words_short request es few small count =
    let words = spaced-le (codes "row" ∷ decimal request ∷ map decimal es) in
    omega (arith, thing_digits request few, edges_room es small)

route : (p : DesignProblem) (row : Row) → IsRow p row → IsRouteOf p.graph (slice_get p.requests row.request) row.rival
route p row is_row = go (slice_get p.requests row.request) is_row
  where
    go : (r : Option Request) → IsRivalOf p.graph r row.rival → IsRouteOf p.graph r row.rival
    go None rival = absurd rival
    go (Some r) rival = rival.0

row_short : (p : DesignProblem) (row : Row) → IsProblem p → FitsGraph p.graph → IsRow p row → IsTextLine (row_line row)
row_short p row kept graph is_row =
    let found = request_of_route p.graph p.requests row.request no_request row.rival (route p row is_row) in
    let ends = request_ends (get_or p.requests row.request no_request) in
    let known = path-known p.graph ends row.rival found.path in
    words_short row.request row.rival (omega (arith, found.within, kept.request_count)) (λ k d k_in. let below =
    known k d k_in in omega (arith, graph.edge_count))
    (path_edges-le p.graph ends row.rival graph found.path)

-- the lines of a problem's rows
pub rows_short : (p : DesignProblem) (rows : List Row) → IsProblem p → FitsGraph p.graph → All (IsRow p) rows → All (λ row. IsTextLine (row_line row)) rows
rows_short p rows kept graph true_rows = λ k d k_in. row_short p (slice_index_or rows k d) kept graph (true_rows k d k_in)
