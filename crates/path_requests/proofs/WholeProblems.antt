-- The problem of a request file without a fault keeps what every problem keeps.
use Rattle.std.proofs.Common.{◌≡◌, ℕ, zero, suc, ◌+◌, ◌<◌, ◌≤◌, refl, sym, ◌∙◌, ap, subst, List, [], ◌∷◌, ◌++◌, length, map, get_or, arith, Bool, true, false, cond, Option, Some, None}
use Rattle.std.specs.Prelude.{All, Any, count_by, slice_get, slice_index, slice_index_or, unwrap_or, not, if◌then◌else◌, ◌&&◌, ◌==◌}
use Rattle.std.specs.List.{filter_map, list_any, cons_option}
use Rattle.std.proofs.lemmas.List.{length-map, get_or-map}
use Rattle.std.proofs.lemmas.List.Elements.{All-nil, All-cons, All-head, All-tail, All-append, All-weaker}
use Rattle.std.proofs.lemmas.List.Sums.{sum_by-cons}
use Rattle.std.proofs.lemmas.Option.{slice_get-get_or}
use Rattle.std.proofs.lemmas.Bool.{not-true, and_from, and_parts, or_parts, eqb-true, false≢true}
use Rattle.cost_base.specs.Words.{IsWord}
use Rattle.area_graph.specs.declared.Price.{Price}
use Rattle.area_graph.specs.declared.Edge.{Edge}
use Rattle.area_graph.specs.Area.{Area}
use Rattle.area_graph.specs.Paths.{Avoids, IsPathOf}
use Rattle.area_graph.specs.Costs.{IsPriced}
use Rattle.cost_base.proofs.ListLemmas.{append-none}
use Rattle.area_graph.proofs.Visits.{joined_known}
use Rattle.lsdb_build.specs.declared.Linked.{Linked}
use Rattle.lsdb_build.specs.Graphs.{Database, IsAreaDatabase, IsDatabaseLink, graph_at, link_edges, subnet_edges, far_vertex}
use Rattle.lsdb_build.proofs.Pairs.{all_at}
use Rattle.design_problem.specs.declared.problem.VarName.{VarName}
use Rattle.design_problem.specs.declared.problem.Request.{Request}
use Rattle.design_problem.specs.Problems.{IsProblem, MayBeExcluded, request_ends}
use Rattle.request_reader.specs.declared.Excluded.{Excluded}
use Rattle.request_reader.specs.declared.Directive.{Directive}
use Rattle.request_reader.specs.declared.Directive.TheVariants.{FreeAll, Free, Fix, Path, SymmetricAll, Symmetric}
use Rattle.request_reader.specs.declared.DirectiveLine.{DirectiveLine}
use Rattle.request_reader.specs.WrittenRoutes.{Route}
use Rattle.request_reader.specs.Asked.{Asked, HasGoodBounds, IsAsked, is_path_directive, is_path}
use Rattle.path_requests.specs.Meaning.{Range, Within, AsItIs, range_said, range_of, is_free, is_free_at, low_of, high_of, owner, own, owners, variable_of, ranges, price_of, prices_from, names_from, problem_of}
use Rattle.wanted_paths.specs.Paths.{is_link_named, next_name, router_number, route_edges, excludes, excluded_edges, request_of}
use Rattle.wanted_paths.specs.Resolution.{is_known, is_joined, is_loop_free}
use Rattle.wanted_paths.specs.LineFaults.{fault_unless, hop_faults, broken_faults, walk_faults, parts_faults, without_faults, is_router_part, is_path_excluded, directive_faults, line_faults}
use Rattle.path_requests.specs.Resolving.{ends_faults}
use Rattle.wanted_paths.specs.Paths.{outline}
use Rattle.wanted_paths.proofs.RouteLaws.{route_simple, lacks_from}
use Rattle.wanted_paths.proofs.ExcludedLaws.{excluded_may_be}
use Rattle.wanted_paths.proofs.LookUps.{no_link}
use Rattle.path_requests.proofs.ProblemLaws.{subnets_priced}
use Rattle.wanted_paths.proofs.Walks.{well_from, words_known, hops_joined}
use Rattle.wanted_paths.proofs.Withouts.{walk_simple}
use Rattle.wanted_paths.proofs.ExcludedEdges.{has_kept}
use Rattle.path_requests.proofs.RangeSteps.{range_after, range_is}
use Rattle.wanted_paths.proofs.Outline.{as_outline, route_same, excluded_same, loop_free_same}
use Rattle.path_requests.proofs.Numbering.{passing, numbered, passing_all}
use Rattle.wanted_paths.specs.declared.fault.ResolutionFault.TheVariants.{LoopPath, PathExcluded}
use Rattle.path_requests.proofs.VariableOwners.{has_owner, variable_is, variable_below}

-- Ranges

-- a free range has bounds
abbrev Bounds : Range → Type 0
Bounds range = is_free range ≡ true → (1 ≤ low_of range) × (low_of range ≤ high_of range)

said_bounds : (d : Database) (link : Linked) (directive : Directive) (range : Range) → HasGoodBounds directive → Bounds range →
    Bounds (unwrap_or (range_said d link directive) range)
said_bounds d link (FreeAll lo hi) range keeps before = λ free. keeps
said_bounds d link (Free router interface lo hi) range keeps before = by_test (is_link_named d router interface link)
  where
    by_test : (b : Bool) → Bounds (unwrap_or (if b then Some (Within lo hi) else None) range)
    by_test true = λ free. keeps
    by_test false = before
said_bounds d link (Fix router interface) range keeps before = by_test (is_link_named d router interface link)
  where
    by_test : (b : Bool) → Bounds (unwrap_or (if b then Some AsItIs else None) range)
    by_test true = λ free. absurd (false≢true free)
    by_test false = before
said_bounds d link (Path route without) range keeps before = before
said_bounds d link SymmetricAll range keeps before = before
said_bounds d link (Symmetric router interface) range keeps before = before

after_bounds : (d : Database) (link : Linked) (range : Range) (items : List DirectiveLine) →
    All (λ item. HasGoodBounds item.what) items → Bounds range → Bounds (range_after d link range items)
after_bounds d link range [] keeps before = before
after_bounds d link range (item ∷ items) keeps before =
    after_bounds d link (unwrap_or (range_said d link item.what) range) items (All-tail (λ (i : DirectiveLine). HasGoodBounds i.what) item items keeps)
    (said_bounds d link item.what range (All-head (λ (i : DirectiveLine). HasGoodBounds i.what) item items keeps) before)

range_bounds : (a : Asked) (d : Database) (link : Linked) → IsAsked a → Bounds (range_of a d link)
range_bounds a d link asked = subst Bounds (range_is d link a.items AsItIs) (after_bounds d link AsItIs a.items asked.bounds (λ free. absurd (false≢true free)))

mapped : {X Y : Type 0} (P : X → Type 0) (f : X → Option Y) (g : X → Y) (xs : List X) → All P xs →
    ((x : X) → P x → f x ≡ Some (g x)) → filter_map f xs ≡ map g xs
mapped P f g [] all is = refl
mapped P f g (x ∷ xs) all is = rw (is x (All-head P x xs all)) (ap (λ ys. g x ∷ ys) (mapped P f g xs (All-tail P x xs all) is))

-- the range of the link at a place
abbrev range_in : Asked → Database → ℕ → Range
range_in a d l = range_of a d (get_or d.links l no_link)

pub ranges_are : (a : Asked) (d : Database) → ranges a d ≡ map (range_in a d) (owners a d)
ranges_are a d =
    mapped (λ l. (l < 0 + length d.links) × (own a d l ≡ true)) _ (range_in a d) (owners a d) (passing_all (own a d) 0 (length d.links))
    (λ l h. let within : l < length d.links = omega (arith, h.0) in rw (slice_get-get_or d.links l no_link within) refl)

-- Prices and names

-- the number of each free link's variable is in range
abbrev AreNumbered : Asked → Database → Type 0
AreNumbered a d = (l : ℕ) (link : Linked) → slice_get d.links l ≡ Some link → is_free (range_of a d link) ≡ true → variable_of a d l < length (owners a d)

-- these links stand in the database from a place on
abbrev StandFrom : Database → ℕ → List Linked → Type 0
StandFrom d l links = (k : ℕ) (link : Linked) → slice_get links k ≡ Some link → slice_get d.links (l + k) ≡ Some link

stand_first : (d : Database) (l : ℕ) (link : Linked) (links : List Linked) → StandFrom d l (link ∷ links) → slice_get d.links l ≡ Some link
stand_first d l link links stand = let same : l + 0 ≡ l = omega arith in ap (slice_get d.links) (sym same) ∙ stand 0 link refl

stand_rest : (d : Database) (l : ℕ) (link : Linked) (links : List Linked) → StandFrom d l (link ∷ links) → StandFrom d (l + 1) links
stand_rest d l link links stand = λ k x at. let same : l + 1 + k ≡ l + suc k = omega arith in ap (slice_get d.links) same ∙ stand (suc k) x at

links_priced : (a : Asked) (d : Database) (l : ℕ) (links : List Linked) → AreNumbered a d → StandFrom d l links →
    All (λ edge. IsPriced (length (owners a d)) edge.price)
    (link_edges (length d.routers) links (prices_from a d l links))
links_priced a d l [] numbers stand = All-nil (λ (edge : Edge). IsPriced (length (owners a d)) edge.price)
links_priced a d l (link ∷ links) numbers stand =
    All-cons (λ (edge : Edge). IsPriced (length (owners a d)) edge.price)
    (record {
      from = link.router;
      to = far_vertex (length d.routers) link.to;
      price = price_of a d l link (range_of a d link);
    })
    (link_edges (length d.routers) links (prices_from a d (l + 1) links))
    (by_range (range_of a d link) refl) (links_priced a d (l + 1) links numbers (stand_rest d l link links stand))
  where
    by_range : (range : Range) → range_of a d link ≡ range → IsPriced (length (owners a d)) (price_of a d l link range)
    by_range (Within lo hi) is = numbers l link (stand_first d l link links stand) (ap is_free is)
    by_range AsItIs is = tt

pub prices_count : (a : Asked) (d : Database) (l : ℕ) (links : List Linked) → length (prices_from a d l links) ≡ length links
prices_count a d l [] = refl
prices_count a d l (link ∷ links) = ap suc (prices_count a d (l + 1) links)

-- a variable's name is in range, and of words
record IsName (n : ℕ) (name : VarName) : Type 0 where
  number : name.var < n
  router : IsWord name.router
  interface : IsWord name.interface

names_good : (a : Asked) (d : Database) (l : ℕ) (links : List Linked) → IsAreaDatabase d → AreNumbered a d →
    StandFrom d l links → All (IsName (length (owners a d))) (names_from a d l links)
names_good a d l [] base numbers stand = All-nil (IsName (length (owners a d)))
names_good a d l (link ∷ links) base numbers stand =
    let there = stand_first d l link links stand in
    let is = all_at (IsDatabaseLink d) d.links base.each_link l link there in
    by_test (is_free (range_of a d link)) refl there is (names_good a d (l + 1) links base numbers (stand_rest d l link links stand))
  where
    by_test : (b : Bool) → is_free (range_of a d link) ≡ b → slice_get d.links l ≡ Some link → IsDatabaseLink d link →
        All (IsName (length (owners a d))) (names_from a d (l + 1) links) →
        All (IsName (length (owners a d)))
        ((if b then record {
          router = slice_index_or d.routers link.router [];
          interface = link.interface;
          var = variable_of a d l;
        } ∷ [] else []) ++ names_from a d (l + 1) links)
    by_test true free there is rest =
        All-cons (IsName (length (owners a d)))
        (record {
          router = slice_index_or d.routers link.router [];
          interface = link.interface;
          var = variable_of a d l;
        }) (names_from a d (l + 1) links)
        (record { number = numbers l link there free; router = base.router_names link.router [] is.router; interface = is.name }) rest
    by_test false free there is rest = rest

any_later : {X : Type 0} (P : X → Type 0) (front xs : List X) → Any P xs → Any P (front ++ xs)
any_later P [] xs any = any
any_later P (x ∷ front) xs any =
    let rest = any_later P front xs any in
    (suc rest.0, rest.1, omega (arith, rest.2), rest.3, rest.4)

names_have : (a : Asked) (d : Database) (l j : ℕ) (links : List Linked) (link : Linked) →
    slice_get links j ≡ Some link → is_free (range_of a d link) ≡ true →
    Any (λ name. name.var ≡ variable_of a d (l + j)) (names_from a d l links)
names_have a d l j [] link at free = absurd (cc)
names_have a d l zero (first ∷ links) link at free =
    let is : first ≡ link = cc in
    let its : is_free (range_of a d first) ≡ true = ap (λ (x : Linked). is_free (range_of a d x)) is ∙ free in
    let same : l ≡ l + 0 = omega arith in
    rw its (
      0,
      record {
        router = slice_index_or d.routers first.router [];
        interface = first.interface;
        var = variable_of a d l;
      },
      omega arith,
      refl,
      ap (variable_of a d) same,
    )
names_have a d l (suc j) (first ∷ links) link at free =
    let same : l + 1 + j ≡ l + suc j = omega arith in
    any_later (λ (name : VarName). name.var ≡ variable_of a d (l + suc j)) (if is_free (range_of a d first) then
    record {
      router = slice_index_or d.routers first.router [];
      interface = first.interface;
      var = variable_of a d l;
    } ∷ [] else []) (names_from a d (l + 1) links)
    (subst (λ k. Any (λ name. name.var ≡ variable_of a d k) (names_from a d (l + 1) links)) same (names_have a d (l + 1) j links link at free))

-- Paths

avoids_excluded : (d : Database) (g : Area) (parts : List Excluded) (es : List ℕ) →
    list_any (λ e. list_any (excludes d g e) parts) es ≡ false → All (λ e. e < length g.edges) es →
    Avoids (excluded_edges d g parts) es
avoids_excluded d g parts [] none within = tt
avoids_excluded d g parts (e ∷ es) none within =
    let split = or_parts (list_any (excludes d g e) parts) (list_any (λ e. list_any (excludes d g e) parts) es) none in
    let below = All-head (λ e. e < length g.edges) e es within in (
      lacks_from (excluded_edges d g parts) e (has_kept (λ e. list_any (excludes d g e) parts) 0 (length g.edges) e (omega arith) (omega (arith, below)) ∙
          split.0),
      avoids_excluded d g parts es split.1 (All-tail (λ e. e < length g.edges) e es within),
    )

-- what a wanted path gives
record IsGood (g : Area) (request : Request) : Type 0 where
  path : IsPathOf g (request_ends request) request.path.edges
  excluded : MayBeExcluded g request.excluded

path_good : (d : Database) (prices : List Price) (line : ℕ) (route : Route) (parts : List Excluded) → IsAreaDatabase d →
    length prices ≡ length d.links → directive_faults d line (Path route parts) ≡ [] →
    IsGood (graph_at d prices)
    (record {
      path = record {
        start = router_number d (next_name route.hops route.last);
        edges = route_edges d (graph_at d prices) route.hops route.last;
      };
      end = router_number d route.last;
      excluded =
          excluded_edges d (graph_at d prices) parts;
    })
path_good d prices line route parts base same none =
    let g = graph_at d prices in
    let ends = as_outline d prices same in
    let whole = append-none (walk_faults d line route) (without_faults d line route parts) none in
    let words = hop_faults d line route.hops route.last in
    let joins = broken_faults d line 1 route.hops route.last in
    let free = is_loop_free d (outline d) route in
    let walk = append-none (words ++ joins) (fault_unless free (LoopPath line)) whole.0 in
    let first = append-none words joins walk.0 in
    let known = words_known d line route.hops route.last first.0 in
    let joined = hops_joined d line 1 route.hops route.last first.1 in
    let loops = loop_free_same d g (outline d) route ends ∙ well_from free (LoopPath line) walk.1 in
    let resolves = and_from (is_known d route.hops route.last && is_joined d route.hops route.last)
    (is_loop_free d g route) (and_from (is_known d route.hops route.last) (is_joined d route.hops route.last) known
    joined) loops in
    let out = walk_simple d line route base whole.0 in
    let edges = route_edges d (outline d) route.hops route.last in
    let start = router_number d (next_name route.hops route.last) in
    let stays = append-none (parts_faults d line parts) (fault_unless (not (is_path_excluded d route parts)) (PathExcluded line)) whole.1 in
    let kept = or_parts (list_any (is_router_part (next_name route.hops route.last)) parts)
    (list_any (λ e. list_any (excludes d (outline d) e) parts) edges)
    (not-true (is_path_excluded d route parts)
    (well_from (not (is_path_excluded d route parts)) (PathExcluded line) stays.1)) in
    let avoids = avoids_excluded d (outline d) parts edges kept.1 (joined_known (outline d) start edges (router_number d route.last) out.joins) in
    record {
      path = record {
        simple = route_simple d prices route base same resolves;
        kept = subst (λ (excluded : List ℕ). Avoids excluded (route_edges d g route.hops route.last)) (sym (excluded_same d g (outline d) parts ends))
            (subst (λ (es : List ℕ). Avoids (excluded_edges d (outline d) parts) es) (sym (route_same d g (outline d) route.hops route.last ends)) avoids);
      };
      excluded = excluded_may_be d g parts;
    }

paths_good : (d : Database) (prices : List Price) (items : List DirectiveLine) → IsAreaDatabase d → length prices ≡ length d.links →
    line_faults d items ≡ [] →
    All (IsGood (graph_at d prices)) (filter_map (λ item. request_of d (graph_at d prices) item.what) items)
paths_good d prices [] base same none = All-nil (IsGood (graph_at d prices))
paths_good d prices (item ∷ items) base same none =
    let parts = append-none (directive_faults d item.line item.what) (line_faults d items) none in
    by_directive item.what parts.0 (paths_good d prices items base same parts.1)
  where
    rest : List Request
    rest = filter_map (λ item. request_of d (graph_at d prices) item.what) items

    by_directive : (directive : Directive) → directive_faults d item.line directive ≡ [] → All (IsGood (graph_at d prices)) rest →
        All (IsGood (graph_at d prices)) (cons_option (request_of d (graph_at d prices) directive) rest)
    by_directive (Path route without) here more =
        All-cons (IsGood (graph_at d prices))
        (record {
          path = record {
            start = router_number d (next_name route.hops route.last);
            edges = route_edges d (graph_at d prices) route.hops route.last;
          };
          end = router_number d route.last;
          excluded = excluded_edges d (graph_at d prices) without;
        }) rest
        (path_good d prices item.line route without base same here) more
    by_directive (FreeAll lo hi) here more = more
    by_directive (Free router interface lo hi) here more = more
    by_directive (Fix router interface) here more = more
    by_directive SymmetricAll here more = more
    by_directive (Symmetric router interface) here more = more

paths_count : (d : Database) (g : Area) (items : List DirectiveLine) → length (filter_map (λ item. request_of d g item.what) items) ≡ count_by is_path items
paths_count d g [] = refl
paths_count d g (item ∷ items) =
    by_directive item.what
    ∙ ap (λ n. cond (is_path_directive item.what) 1 0 + n) (paths_count d g items)
    ∙ sym (sum_by-cons (λ (i : DirectiveLine). cond (is_path i) 1 0) item items)
  where
    by_directive : (directive : Directive) → length (cons_option (request_of d g directive)
        (filter_map (λ item. request_of d g item.what) items)) ≡ cond (is_path_directive directive) 1 0
        + length (filter_map (λ item. request_of d g item.what) items)
    by_directive (Path route without) = omega arith
    by_directive (FreeAll lo hi) = omega arith
    by_directive (Free router interface lo hi) = omega arith
    by_directive (Fix router interface) = omega arith
    by_directive SymmetricAll = omega arith
    by_directive (Symmetric router interface) = omega arith

-- requests whose lines have no fault and whose symmetric links have no different ends make a problem of few variables
pub whole_is_problem : (a : Asked) (d : Database) → IsAsked a → IsAreaDatabase d → line_faults d a.items ≡ [] →
    ends_faults a d a.items ≡ [] → length (owners a d) ≤ 1000 → IsProblem (problem_of a d)
whole_is_problem a d asked base lines ends few =
    let n = length (owners a d) in
    let prices = prices_from a d 0 d.links in
    let same = prices_count a d 0 d.links in
    let g = graph_at d prices in
    let stand : StandFrom d 0 d.links = λ k link at. let moved : 0 + k ≡ k = omega arith in ap (slice_get d.links) moved ∙ at in
    let numbers : AreNumbered a d = λ l link there free. variable_below a d l (has_owner a d l link base ends there free) in
    let counted : length (ranges a d) ≡ n = ap length (ranges_are a d) ∙ length-map (owners a d) (range_in a d) in
    let low_count : length (map low_of (ranges a d)) ≡ n = length-map (ranges a d) low_of ∙ counted in
    let high_count : length (map high_of (ranges a d)) ≡ n = length-map (ranges a d) high_of ∙ counted in
    let good = paths_good d prices a.items base same lines in
    let requests = filter_map (λ item. request_of d g item.what) a.items in
    let names = names_good a d 0 d.links base numbers stand in
    let vars = names_from a d 0 d.links in
    record {
      requests = All-weaker (IsGood g) (λ r. IsPathOf g (request_ends r) r.path.edges) (λ r is. is.path) requests good;
      excluded = All-weaker (IsGood g) (λ r. MayBeExcluded g r.excluded) (λ r is. is.excluded) requests good;
      low_count = low_count ∙ sym high_count;
      var_count = omega (arith, low_count);
      ordered = λ k within. ordered_at k (omega (arith, low_count));
      priced = rw low_count (All-append (λ (edge : Edge). IsPriced n edge.price)
          (link_edges (length d.routers) d.links prices) (subnet_edges d.links (length d.routers) d.subnets)
          (links_priced a d 0 d.links numbers stand) (subnets_priced n d.links (length d.routers) d.subnets));
      named = rw low_count (All-weaker (IsName n) (λ name. name.var < n) (λ name is. is.number) vars names);
      each_named = λ k within. named_at k (omega (arith, low_count));
      words = All-weaker (IsName n) (λ name. IsWord name.router × IsWord name.interface) (λ name is. (is.router, is.interface)) vars names;
      request_count = omega (arith, paths_count d g a.items, asked.paths);
    }
  where
    owned : All (λ l. (l < 0 + length d.links) × (own a d l ≡ true)) (owners a d)
    owned = passing_all (own a d) 0 (length d.links)

    free_here : (l : ℕ) → l < length d.links → own a d l ≡ true → is_free (range_in a d l) ≡ true
    free_here l within owns =
        let there = slice_get-get_or d.links l no_link within in
        let parts = and_parts (is_free_at a d l) (owner a d l == l) owns in
        rw there at parts.0

    ordered_at : (k : ℕ) → k < length (owners a d) → (1 ≤ slice_index (map low_of (ranges a d)) k)
        × (slice_index (map low_of (ranges a d)) k ≤ slice_index (map high_of (ranges a d)) k)
    ordered_at k below =
        let l = get_or (owners a d) k 0 in
        let here = owned k 0 below in
        let bounds = range_bounds a d (get_or d.links l no_link) asked (free_here l (omega (arith, here.0)) here.1) in
        let counted : length (map (range_in a d) (owners a d)) ≡ length (owners a d) = length-map (owners a d) (range_in a d) in
        let range = get_or-map (range_in a d) (owners a d) k 0 AsItIs below in
        let low : get_or (map low_of (ranges a d)) k 0 ≡ low_of (range_in a d l)
        = ap (λ (rs : List Range). get_or (map low_of rs) k 0) (ranges_are a d)
        ∙ get_or-map low_of (map (range_in a d) (owners a d)) k AsItIs 0 (omega (arith, counted, below))
        ∙ ap low_of range in
        let high : get_or (map high_of (ranges a d)) k 0 ≡ high_of (range_in a d l)
        = ap (λ (rs : List Range). get_or (map high_of rs) k 0) (ranges_are a d)
        ∙ get_or-map high_of (map (range_in a d) (owners a d)) k AsItIs 0 (omega (arith, counted, below))
        ∙ ap high_of range in
        (omega (arith, low, bounds.0), omega (arith, low, high, bounds.1))

    named_at : (k : ℕ) → k < length (owners a d) → Any (λ name. name.var ≡ k) (names_from a d 0 d.links)
    named_at k below =
        let one = numbered (own a d) 0 (length d.links) k below in
        let l : ℕ = 0 + one.place in
        let at : l ≡ one.place = omega arith in
        let owns : own a d l ≡ true = one.passes in
        let its : owner a d l ≡ l = eqb-true (owner a d l) l (and_parts (is_free_at a d l) (owner a d l == l) owns).1 in
        let within : l < length d.links = omega (arith, one.within) in
        let number : variable_of a d l ≡ k = variable_is a d l (omega (arith, its, within))
        ∙ ap (λ o. length (passing (own a d) 0 o)) (its ∙ at) ∙ one.number in
        let there = slice_get-get_or d.links one.place no_link one.within in
        subst (λ v. Any (λ name. name.var ≡ v) (names_from a d 0 d.links)) number
        (names_have a d 0 one.place d.links (get_or d.links one.place no_link) there
        (subst (λ p. is_free (range_in a d p) ≡ true) at (free_here l within owns)))
