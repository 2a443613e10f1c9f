-- The faults of a walk: where its words are known and its hops join, it has one exactly where a vertex comes twice.
use Rattle.std.proofs.Common.{◌≡◌, ◌↔◌, ℕ, ◌+◌, refl, List, [], ◌∷◌, ◌++◌, map, Bool, true, false}
use Rattle.std.specs.Prelude.{IsTrue, not, ◌&&◌, ◌==◌, if◌then◌else◌}
use Rattle.std.specs.List.{list_any}
use Rattle.std.proofs.lemmas.List.{length-map}
use Rattle.std.proofs.lemmas.Bool.{and_from, not_from_false}
use Rattle.cost_base.specs.Lists.{first_of, NoneTwice}
use Rattle.cost_base.proofs.ListLemmas.{append-none, same_test}
use Rattle.cost_base.specs.declared.refusal.Refusal.{Refusal}
use Rattle.cost_base.specs.declared.refusal.Refusal.TheVariants.{Refused, OutOfMemory}
use Rattle.area_graph.specs.declared.Price.{Price}
use Rattle.area_graph.specs.declared.Price.TheVariants.{Fixed}
use Rattle.area_graph.specs.Paths.{visited, IsSimple}
use Rattle.lsdb_build.specs.declared.Linked.{Linked}
use Rattle.lsdb_build.specs.Graphs.{Database, IsAreaDatabase}
use Rattle.wanted_paths.specs.declared.routes.Walk.{Walk}
use Rattle.request_reader.specs.WrittenRoutes.{Route}
use Rattle.wanted_paths.specs.Paths.{next_name, router_number, route_edges}
use Rattle.wanted_paths.specs.Resolution.{knows_router, knows_link, is_known, is_joined, is_none_twice, is_loop_free}
use Rattle.wanted_paths.specs.declared.fault.ResolutionFault.{ResolutionFault}
use Rattle.wanted_paths.specs.LineFaults.{fault_unless, router_faults, interface_faults, hop_faults, leads_on, broken_faults, walk_faults, TellsResolution}
use Rattle.wanted_paths.specs.Paths.{outline}
use Rattle.wanted_paths.specs.Walks.{IsWalk}
use Rattle.wanted_paths.proofs.RouteLaws.{route_simple, lacks_test}
use Rattle.wanted_paths.specs.declared.fault.ResolutionFault.TheVariants.{UnknownRouter, UnknownInterface, LoopPath, BrokenPath}

pub well_from : (well : Bool) (fault : ResolutionFault) → fault_unless well fault ≡ [] → well ≡ true
well_from true fault none = refl
well_from false fault some = absurd (clash some)
  where
    clash : (fault ∷ []) ≡ [] → ⊥
    clash h = cc

-- what tells the first of some faults tells the first where others come after them
pub tells_front : (xs ys : List ResolutionFault) (stop : Refusal ResolutionFault (Unit {0})) → TellsResolution (first_of xs) stop →
    TellsResolution (first_of (xs ++ ys)) stop
tells_front [] ys (Refused told place) tells = absurd (cc)
tells_front [] ys OutOfMemory tells = tt
tells_front (x ∷ xs) ys stop tells = tells

-- and so where none come before them
pub tells_back : (xs ys : List ResolutionFault) (stop : Refusal ResolutionFault (Unit {0})) → xs ≡ [] → TellsResolution (first_of ys) stop →
    TellsResolution (first_of (xs ++ ys)) stop
tells_back xs ys stop none tells = rw none tells

pub words_known : (d : Database) (line : ℕ) (hops : List (List ℕ × List ℕ)) (last : List ℕ) → hop_faults d line hops last ≡ [] → is_known d hops last ≡ true
words_known d line [] last none = well_from (knows_router d last) (UnknownRouter line) none
words_known d line (hop ∷ hops) last none =
    let parts = append-none (interface_faults d line hop.0 hop.1) (hop_faults d line hops last) none in
    let names = append-none (router_faults d line hop.0) (fault_unless (knows_link d hop.0 hop.1) (UnknownInterface line)) parts.0 in
    and_from (knows_router d hop.0 && knows_link d hop.0 hop.1) (is_known d hops last)
    (and_from (knows_router d hop.0) (knows_link d hop.0 hop.1)
    (well_from (knows_router d hop.0) (UnknownRouter line) names.0)
    (well_from (knows_link d hop.0 hop.1) (UnknownInterface line) names.1))
    (words_known d line hops last parts.1)

leads_from : (leads : Bool) (line number : ℕ) → (if leads then [] else BrokenPath line number ∷ []) ≡ [] → leads ≡ true
leads_from true line number none = refl
leads_from false line number some = absurd (clash some)
  where
    clash : (BrokenPath line number ∷ []) ≡ [] → ⊥
    clash h = cc

pub hops_joined : (d : Database) (line number : ℕ) (hops : List (List ℕ × List ℕ)) (last : List ℕ) →
    broken_faults d line number hops last ≡ [] → is_joined d hops last ≡ true
hops_joined d line number [] last none = refl
hops_joined d line number (hop ∷ hops) last none =
    let leads = leads_on d hop (next_name hops last) in
    let parts = append-none (if leads then [] else BrokenPath line number ∷ []) (broken_faults d line (number + 1) hops last) none in
    and_from leads (is_joined d hops last) (leads_from leads line number parts.0) (hops_joined d line (number + 1) hops last parts.1)

-- a list in which nothing comes twice passes the test
none_twice_test : (xs : List ℕ) → NoneTwice xs → is_none_twice xs ≡ true
none_twice_test [] once = refl
none_twice_test (x ∷ xs) once =
    and_from (not (list_any (λ y. x == y) xs)) (is_none_twice xs)
    (not_from_false (list_any (λ y. x == y) xs) (lacks_test xs x once.0)) (none_twice_test xs once.1)

-- a route whose words are known and whose hops join is a simple path of the outline where no vertex comes twice
pub outline_simple : (d : Database) (route : Route) → IsAreaDatabase d → is_known d route.hops route.last ≡ true →
    is_joined d route.hops route.last ≡ true → is_loop_free d (outline d) route ≡ true →
    IsSimple (outline d) (router_number d (next_name route.hops route.last))
    (route_edges d (outline d) route.hops route.last) (router_number d route.last)
outline_simple d route base known joined free =
    let prices : List Price = map (λ (link : Linked). Fixed 1) d.links in
    route_simple d prices route base (length-map {B = Price} d.links (λ (link : Linked). Fixed 1))
    (and_from (is_known d route.hops route.last && is_joined d route.hops route.last) (is_loop_free d (outline d) route)
    (and_from (is_known d route.hops route.last) (is_joined d route.hops route.last) known joined) free)

-- the walk's one fault where its words are known and its hops join
pub walk_faults_are : (d : Database) (line : ℕ) (route : Route) (walk : Walk) (simple : Bool) → IsAreaDatabase d →
    hop_faults d line route.hops route.last ≡ [] → broken_faults d line 1 route.hops route.last ≡ [] →
    IsWalk d route walk → (IsTrue simple ↔ IsSimple (outline d) walk.path.start walk.path.edges walk.end) →
    walk_faults d line route ≡ fault_unless simple (LoopPath line)
walk_faults_are d line route walk simple base words hops is test =
    let known = words_known d line route.hops route.last words in
    let joined = hops_joined d line 1 route.hops route.last hops in
    let start = router_number d (next_name route.hops route.last) in
    let edges = route_edges d (outline d) route.hops route.last in
    let end = router_number d route.last in
    let same : is_loop_free d (outline d) route ≡ simple
    = same_test (is_loop_free d (outline d) route) simple
    (λ free. test.1 (rw (is.start, is.edges, is.end) (outline_simple d route base known joined free)))
    (λ holds. let path : IsSimple (outline d) start edges end = rw (is.start, is.edges, is.end) at (test.0 holds) in
    none_twice_test (visited (outline d) start edges) path.none_twice) in
    rw (words, hops, same) refl
