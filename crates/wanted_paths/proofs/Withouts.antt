-- The faults of what a path excludes.
use Rattle.std.proofs.Common.{◌≡◌, ℕ, refl, sym, ◌∙◌, ap, subst, List, [], ◌++◌, length, Bool}
use Rattle.std.specs.Prelude.{not, ◌||◌}
use Rattle.std.specs.List.{list_any}
use Rattle.cost_base.proofs.ListLemmas.{append-none}
use Rattle.cost_base.specs.Marks.{is_marked}
use Rattle.area_graph.specs.Area.{Area}
use Rattle.area_graph.specs.Distances.{AreEdgeMarks}
use Rattle.area_graph.proofs.Visits.{joined_known}
use Rattle.lsdb_build.specs.Graphs.{Database, IsAreaDatabase}
use Rattle.request_reader.specs.declared.Excluded.{Excluded}
use Rattle.wanted_paths.specs.declared.routes.Walk.{Walk}
use Rattle.request_reader.specs.WrittenRoutes.{Route}
use Rattle.wanted_paths.specs.Paths.{next_name, router_number, route_edges}
use Rattle.wanted_paths.specs.Resolution.{is_loop_free}
use Rattle.wanted_paths.specs.LineFaults.{fault_unless, hop_faults, broken_faults, walk_faults, parts_faults, without_faults, is_router_part, is_path_excluded}
use Rattle.wanted_paths.specs.Paths.{outline}
use Rattle.wanted_paths.specs.Walks.{IsWalk}
use Rattle.wanted_paths.specs.Excluded.{excluded_by_all}
use Rattle.wanted_paths.proofs.Walks.{well_from, words_known, hops_joined, outline_simple}
use Rattle.wanted_paths.proofs.ExcludedEdges.{path_marked}
use Rattle.wanted_paths.specs.declared.fault.ResolutionFault.TheVariants.{LoopPath, PathExcluded}
use Rattle.area_graph.specs.Paths.{IsSimple}

-- a walk without a fault is a simple path of the outline
pub walk_simple : (d : Database) (line : ℕ) (route : Route) → IsAreaDatabase d → walk_faults d line route ≡ [] →
    IsSimple (outline d) (router_number d (next_name route.hops route.last))
    (route_edges d (outline d) route.hops route.last) (router_number d route.last)
walk_simple d line route base none =
    let words = hop_faults d line route.hops route.last in
    let joins = broken_faults d line 1 route.hops route.last in
    let free = is_loop_free d (outline d) route in
    let whole = append-none (words ++ joins) (fault_unless free (LoopPath line)) none in
    let parts = append-none words joins whole.0 in
    outline_simple d route base (words_known d line route.hops route.last parts.0)
    (hops_joined d line 1 route.hops route.last parts.1) (well_from free (LoopPath line) whole.1)

-- the edges of the outline that are excluded, as a list and as marks
pub record AreExcluded (d : Database) (parts : List Excluded) (excluded : List ℕ) (marks : List Bool) : Type 0 where
  pub are : AreEdgeMarks excluded marks
  pub all : excluded ≡ excluded_by_all d (outline d) parts
  pub count : length marks ≡ length (outline d).edges

-- the marks that were set by a list as it was lent
pub excluded_marks : (d : Database) (g : Area) (parts : List Excluded) (lent excluded : List ℕ) (old marks : List Bool) →
    g ≡ outline d → lent ≡ excluded → AreEdgeMarks lent marks → excluded ≡ excluded_by_all d g parts →
    length marks ≡ length old → length old ≡ length g.edges → AreExcluded d parts excluded marks
excluded_marks d g parts lent excluded old marks graph same are all kept count = record {
  are = subst (λ (xs : List ℕ). AreEdgeMarks xs marks) same are;
  all = all ∙ ap (λ (h : Area). excluded_by_all d h parts) graph;
  count = kept ∙ count ∙ ap (λ (h : Area). length h.edges) graph;
}

pub without_faults_are : (d : Database) (line : ℕ) (route : Route) (walk : Walk) (parts : List Excluded) (excluded : List ℕ)
    (marks : List Bool) (tested : Bool) → IsAreaDatabase d → IsWalk d route walk → walk_faults d line route ≡ [] →
    parts_faults d line parts ≡ [] → AreExcluded d parts excluded marks →
    tested ≡ (list_any (is_router_part (next_name route.hops route.last)) parts
    || list_any (is_marked marks) walk.path.edges) →
    without_faults d line route parts ≡ fault_unless (not tested) (PathExcluded line)
without_faults_are d line route walk parts excluded marks tested base is walks words excluded_are tests =
    let simple = walk_simple d line route base walks in
    let edges = route_edges d (outline d) route.hops route.last in
    let start = list_any (is_router_part (next_name route.hops route.last)) parts in
    let within = joined_known (outline d) (router_number d (next_name route.hops route.last)) edges (router_number d route.last) simple.joins in
    let same : is_path_excluded d route parts ≡ tested
    =
    ap (λ b. start || b) (sym (path_marked d (outline d) parts excluded marks edges excluded_are.are excluded_are.all
    excluded_are.count within)
    ∙ ap (λ (es : List ℕ). list_any (is_marked marks) es) (sym is.edges)) ∙ sym tests in
    rw (words, same) refl
