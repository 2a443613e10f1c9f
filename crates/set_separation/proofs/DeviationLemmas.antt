-- Deviations from a tree of prefixes: where they begin, what they cost, and that each outsider takes one.
use Rattle.std.proofs.Common.{◌≡◌, ◌≢◌, ℕ, zero, suc, ◌+◌, ◌*◌, ◌^◌, ◌<◌, ◌≤◌, refl, sym, ◌∙◌, ap, subst, inl, inr, ◌⊎◌, List, [], ◌∷◌, ◌++◌, length, get_or, arith, append_assoc, length-append, add-one, Bool, true, false}
use Rattle.std.specs.Prelude.{All, Contains, slice_index}
use Rattle.std.specs.List.{list_any}
use Rattle.std.proofs.lemmas.Bool.{cases_lt, eq-eqb, false≢true}
use Rattle.std.proofs.lemmas.Option.{same_Some}
use Rattle.std.proofs.lemmas.List.{append-nil, get_or_default}
use Rattle.std.proofs.lemmas.List.Elements.{All-contains}
use Rattle.std.proofs.lemmas.List.Folds.{list_any_at}
use Rattle.std.proofs.lemmas.List.Sums.{sum_by-append, sum_by-cons}
use Rattle.cost_base.specs.Lists.{Lacks, NoneTwice}
use Rattle.cost_base.proofs.ListLemmas.{each_append, each_left, each_right}
use Rattle.area_graph.specs.declared.Point.{Point}
use Rattle.area_graph.specs.Area.{Area, edge_at, no_edge, FitsGraph, FitsEdge, HasMetrics}
use Rattle.area_graph.specs.Paths.{Ends, IsPathOf, Joins, Avoids, visited}
use Rattle.area_graph.specs.Costs.{cost, price_at, FitsPoint}
use Rattle.area_graph.proofs.Walks.{simple_in_walk}
use Rattle.area_graph.proofs.Bounds.{cost_below}
use Rattle.spf_ties.specs.Distances.{Findings, distance_at}
use Rattle.design_problem.proofs.PathBounds.{simple-short}
use Rattle.rival_separation.specs.Rivals.{HasWay, IsFollowedByLeast, HasDistancesBelow, ends_from}
use Rattle.rival_separation.proofs.DeviationLemmas.{DeviatesOnce}
use Rattle.rival_separation.proofs.RivalLemmas.{is_least, some_least}
use Rattle.set_separation.specs.declared.prefix_tree.Step.{Step}
use Rattle.set_separation.specs.Outsiders.{CostAtLeast, IsCheapestOutsider, IsOutsider}
use Rattle.set_separation.specs.PrefixTrees.{BeginsOneOf, HasStep, IsPrefixTree, no_step, prefix_of_place, step_at}
use Rattle.set_separation.specs.Deviations.{ArePlaceCosts, DeviatesFromTree, place_vertex}
use Rattle.set_separation.proofs.PrefixLemmas.{any_step, is_step}

-- Paths that are cut.

-- the vertex at which two parts of a walk meet
pub record Cut (g : Area) (s : ℕ) (front back : List ℕ) (t : ℕ) : Type 0 where
  pub at_vertex : ℕ
  pub before : Joins g s front at_vertex
  pub behind : Joins g at_vertex back t

pub cut : (g : Area) (s : ℕ) (front back : List ℕ) (t : ℕ) → Joins g s (front ++ back) t → Cut g s front back t
cut g s [] back t joins = record { at_vertex = s; before = refl; behind = joins }
cut g s (e ∷ front) back t joins =
    let rest = cut g (edge_at g e).to front back t joins.2 in
    record { at_vertex = rest.at_vertex; before = (joins.0, joins.1, rest.before); behind = rest.behind }

join : (g : Area) (s : ℕ) (front back : List ℕ) (v t : ℕ) → Joins g s front v → Joins g v back t → Joins g s (front ++ back) t
join g s [] back v t before behind = subst (λ (u : ℕ). Joins g u back t) (sym before) behind
join g s (e ∷ front) back v t before behind = (before.0, before.1, join g (edge_at g e).to front back v t before.2 behind)

-- the end of a walk is where its parts meet, so the part behind has no vertex twice either
once_behind : (g : Area) (s : ℕ) (front back : List ℕ) (v : ℕ) → Joins g s front v → NoneTwice (visited g s (front ++ back)) → NoneTwice (visited g v back)
once_behind g s [] back v before once = subst (λ (u : ℕ). NoneTwice (visited g u back)) before once
once_behind g s (e ∷ front) back v before once = once_behind g (edge_at g e).to front back v before.2 once.1

-- a walk's end is one vertex
one_end : (g : Area) (s : ℕ) (es : List ℕ) (u v : ℕ) → Joins g s es u → Joins g s es v → u ≡ v
one_end g s [] u v one two = sym one ∙ two
one_end g s (e ∷ es) u v one two = one_end g (edge_at g e).to es u v one.2 two.2

-- a walk comes to its end
ends_visited : (g : Area) (u : ℕ) (es : List ℕ) (t : ℕ) → Joins g u es t → Lacks (visited g u es) t → ⊥
ends_visited g u [] t joins lacks = lacks.0 (sym joins)
ends_visited g u (e ∷ es) t joins lacks = ends_visited g (edge_at g e).to es t joins.2 lacks.1

-- The places of a tree.

module _ (g : Area) (ends : Ends) (wanted : List (List ℕ)) (steps : List Step) (tree : IsPrefixTree g ends wanted steps) where
  abbrev prefix : ℕ → List ℕ
  prefix k = prefix_of_place tree.grown.prefixes k

  -- the prefix of a place begins a path of the request
  pub begun_path : (k : ℕ) (known : k ≤ length steps) → IsPathOf g ends (prefix k ++ (tree.grown.begun k known).more)
  begun_path k known =
      let begins = tree.grown.begun k known in
      subst (IsPathOf g ends) begins.same (All-contains (IsPathOf g ends) wanted begins.path tree.paths begins.listed)

  -- the step to a place: its edge is known, and the prefix leads to the edge's end
  pub step_known : (i : ℕ) → i < length steps → (step_at steps i).edge < length g.edges
  step_known i within =
      let e = (step_at steps i).edge in
      let known : i + 1 ≤ length steps = omega arith in
      let path = begun_path (i + 1) known in
      let front = prefix (step_at steps i).place in
      let whole = subst (λ (es : List ℕ). Joins g ends.start (es ++ (tree.grown.begun (i + 1) known).more) ends.end)
      (tree.grown.grown i within) path.simple.joins in
      (cut g ends.start front (e ∷ []) _ (cut g ends.start (front ++ e ∷ []) (tree.grown.begun (i + 1) known).more ends.end whole).before).behind.0

  pub place_joins : (k : ℕ) → k ≤ length steps → Joins g ends.start (prefix k) (place_vertex g ends steps k)
  place_joins zero known = subst (λ (es : List ℕ). Joins g ends.start es ends.start) (sym tree.grown.root) refl
  place_joins (suc i) known =
      let within : i < length steps = omega arith in
      let e = (step_at steps i).edge in
      let front = prefix (step_at steps i).place in
      let grown : prefix (suc i) ≡ front ++ e ∷ [] = ap (λ (n : ℕ). prefix n) (sym (add-one i)) ∙ tree.grown.grown i within in
      let path = begun_path (suc i) known in
      let parts = cut g ends.start (prefix (suc i)) (tree.grown.begun (suc i) known).more ends.end path.simple.joins in
      let last = cut g ends.start front (e ∷ []) parts.at_vertex (subst (λ (es : List ℕ). Joins g ends.start es parts.at_vertex) grown parts.before) in
      subst (λ (v : ℕ). Joins g ends.start (prefix (suc i)) v) (sym last.behind.2) parts.before

  pub place_avoids : (k : ℕ) → k ≤ length steps → Avoids ends.excluded (prefix k)
  place_avoids k known = each_left (Lacks ends.excluded) (prefix k) (tree.grown.begun k known).more (begun_path k known).kept

  pub place_short : FitsGraph g → (k : ℕ) → k ≤ length steps → length (prefix k) < length g.vertices
  place_short graph k known =
      let path = begun_path k known in
      let short = simple-short g ends.start (prefix k ++ (tree.grown.begun k known).more) ends.end graph path.simple in
      let count = length-append (prefix k) (tree.grown.begun k known).more in
      omega arith

  pub vertex_known : FitsGraph g → (k : ℕ) → k ≤ length steps → place_vertex g ends steps k < length g.vertices
  vertex_known graph zero known = (begun_path 0 known).simple.start
  vertex_known graph (suc i) known = (graph.edges (step_at steps i).edge no_edge (step_known i (omega arith))).to

  pub prefix_below : (p : Point) → FitsGraph g → HasMetrics g → FitsPoint g p → (k : ℕ) → k ≤ length steps → cost g p (prefix k) < 2 ^ 26 * p.scale
  prefix_below p graph metrics fits k known =
      let path = begun_path k known in
      let more = (tree.grown.begun k known).more in
      let below = cost_below g p ends.start (prefix k ++ more) ends.end graph metrics fits path.simple.joins path.simple.none_twice in
      let split = sum_by-append (λ i. price_at p (edge_at g i).price) (prefix k) more in
      omega arith

  -- the costs that are written down are those of the prefixes
  pub prefix_cost : (p : Point) (costs : List ℕ) (m : ℕ) → m ≤ length steps → ArePlaceCosts g p steps m costs →
      (n k : ℕ) → k ≤ n → k ≤ m → slice_index costs k ≡ cost g p (prefix k)
  prefix_cost p costs m few are n zero below known = are.root ∙ ap (cost g p) (sym tree.grown.root)
  prefix_cost p costs m few are zero (suc i) below known = absurd (omega arith)
  prefix_cost p costs m few are (suc n) (suc i) below known =
      let within : i < length steps = omega arith in
      let s = step_at steps i in
      let low = tree.grown.before i within in
      let earlier = prefix_cost p costs m few are n s.place (omega arith) (omega arith) in
      let here = are.each i (omega arith) in
      let same = ap (λ (j : ℕ). slice_index costs j) (sym (add-one i)) in
      let grown = ap (cost g p) (ap (λ (j : ℕ). prefix j) (sym (add-one i)) ∙ tree.grown.grown i within) in
      let split = sum_by-append (λ j. price_at p (edge_at g j).price) (prefix s.place) (s.edge ∷ []) in
      let one = sum_by-cons (λ j. price_at p (edge_at g j).price) s.edge [] in
      omega arith

  pub place_below : (p : Point) (costs : List ℕ) (m : ℕ) → m ≤ length steps → ArePlaceCosts g p steps m costs →
      FitsGraph g → HasMetrics g → FitsPoint g p → (k : ℕ) → k ≤ m → slice_index costs k < 2 ^ 26 * p.scale
  place_below p costs m few are graph metrics fits k known =
      let same = prefix_cost p costs m few are k k (omega arith) known in
      let below = prefix_below p graph metrics fits k (omega arith) in
      omega arith

-- a deviation by an edge at a place has one cost
pub deviates_once : (g : Area) (p : Point) (ends : Ends) (room : Findings) (steps : List Step) (costs : List ℕ) →
    DeviatesOnce (DeviatesFromTree g p ends room steps costs)
deviates_once g p ends room steps costs k e a b one two =
    let rest = same_Some one.onward.rest two.onward.rest (sym one.onward.distance ∙ two.onward.distance) in
    let first = one.onward.sums in
    let second = two.onward.sums in
    let one_sums = one.sums in
    let two_sums = two.sums in
    omega arith

-- Each outsider leaves the tree.

has_or_lacks : (steps : List Step) (k e : ℕ) → HasStep steps k e ⊎ (HasStep steps k e → ⊥)
has_or_lacks steps k e = by_test (list_any (is_step k e) steps) refl
  where
    by_test : (b : Bool) → list_any (is_step k e) steps ≡ b → HasStep steps k e ⊎ (HasStep steps k e → ⊥)
    by_test true some = inl (any_step steps k e some)
    by_test false none = inr (λ has.
        false≢true (sym none ∙ list_any_at (is_step k e) steps has.0 no_step has.1.within
        (rw (
          eq-eqb k (step_at steps has.0).place (sym has.1.from),
          eq-eqb e (step_at steps has.0).edge (sym has.1.by),
        ) refl)))

-- the deviation by which a walk leaves the tree
record Deviated (g : Area) (p : Point) (ends : Ends) (room : Findings) (steps : List Step) (costs : List ℕ) (most : ℕ) : Type 0 where
  place : ℕ
  edge : ℕ
  total : ℕ
  deviates : DeviatesFromTree g p ends room steps costs place edge total
  within : total ≤ most

module _ (g : Area) (p : Point) (ends : Ends) (limit : ℕ) (room : Findings) (wanted : List (List ℕ)) (steps : List Step)
    (costs : List ℕ) (graph : FitsGraph g) (found : HasDistancesBelow g p ends limit room) (tree : IsPrefixTree g ends wanted steps)
    (are : ArePlaceCosts g p steps (length steps) costs) where
  abbrev place_prefix : ℕ → List ℕ
  place_prefix k = prefix_of_place tree.grown.prefixes k

  -- a wanted path goes on behind its prefix, or is it
  ended : (q : List ℕ) → IsPathOf g ends q → (k : ℕ) → k ≤ length steps → q ≡ place_prefix k → Contains wanted q
  ended q path k known same = by_more begins.more refl
    where
      begins : BeginsOneOf wanted (place_prefix k)
      begins = tree.grown.begun k known

      longer : IsPathOf g ends (place_prefix k ++ begins.more)
      longer = begun_path g ends wanted steps tree k known

      by_more : (more : List ℕ) → more ≡ begins.more → Contains wanted q
      by_more [] is = subst (Contains wanted) (begins.same ∙ ap (λ (es : List ℕ). place_prefix k ++ es) (sym is)
          ∙ append-nil (place_prefix k) ∙ sym same) begins.listed
      by_more (e ∷ more) is =
          let whole = subst (λ (es : List ℕ). IsPathOf g ends (place_prefix k ++ es)) (sym is) longer in
          let parts = cut g ends.start (place_prefix k) (e ∷ more) ends.end whole.simple.joins in
          let at_end = one_end g ends.start (place_prefix k) parts.at_vertex ends.end parts.before
          (subst (λ (es : List ℕ). Joins g ends.start es ends.end) same path.simple.joins) in
          let behind = subst (λ (v : ℕ). Joins g v (e ∷ more) ends.end) at_end parts.behind in
          let once = once_behind g ends.start (place_prefix k) (e ∷ more) ends.end
          (subst (λ (v : ℕ). Joins g ends.start (place_prefix k) v) at_end parts.before) whole.simple.none_twice in
          absurd (ends_visited g (edge_at g e).to more ends.end behind.2 once.0)

  leaves : (q : List ℕ) → IsOutsider g ends wanted q → cost g p q < limit → (k : ℕ) → k ≤ length steps →
      (rest : List ℕ) → q ≡ place_prefix k ++ rest → Deviated g p ends room steps costs (cost g p q)
  leaves q outsider near k known [] same =
      absurd (All-contains (λ w. q ≢ w) wanted q outsider.other (ended q outsider.path k known (same ∙ append-nil (place_prefix k))) refl)
  leaves q outsider near k known (e ∷ rest) same = elim (has_or_lacks steps k e) [
    | inl has ↦ (
        let within = has.1.within in
        let grown = tree.grown.grown has.0 has.1.within
        ∙ ap (λ (n : ℕ). place_prefix n ++ (step_at steps has.0).edge ∷ []) has.1.from
        ∙ ap (λ (n : ℕ). place_prefix k ++ n ∷ []) has.1.by in
        leaves q outsider near (has.0 + 1) (omega arith) rest (same ∙ sym (append_assoc (place_prefix k) (e ∷ []) rest)
        ∙ ap (λ (es : List ℕ). es ++ rest) (sym grown)))
    | inr none ↦ (
        let path = subst (IsPathOf g ends) same outsider.path in
        let parts = cut g ends.start (place_prefix k) (e ∷ rest) ends.end path.simple.joins in
        let vertex = one_end g ends.start (place_prefix k) parts.at_vertex (place_vertex g ends steps k) parts.before
        (place_joins g ends wanted steps tree k known) in
        let once = once_behind g ends.start (place_prefix k) (e ∷ rest) parts.at_vertex parts.before path.simple.none_twice in
        let kept = each_right (Lacks ends.excluded) (place_prefix k) (e ∷ rest) path.kept in
        let edge : FitsEdge g (edge_at g e) = graph.edges e no_edge parts.behind.0 in
        let split = ap (cost g p) same ∙ sum_by-append (λ i. price_at p (edge_at g i).price) (place_prefix k) (e ∷ rest) in
        let longer = sum_by-cons (λ i. price_at p (edge_at g i).price) e rest in
        let some = some_least g p (ends_from ends (edge_at g e).to) limit (distance_at room (edge_at g e).to) (found.least (edge_at g e).to edge.to) rest
        (record { simple = record { start = edge.to; end = path.simple.end; joins = parts.behind.2; none_twice = once.1 }; kept = kept.1 }) (omega arith) in
        let here = prefix_cost g ends wanted steps tree p costs (length steps) (omega arith) are k k (omega arith) known in
        let most = some.within in
        record {
          place = k;
          edge = e;
          total = slice_index costs k + (price_at p (edge_at g e).price + some.least);
          deviates = record {
            rest = price_at p (edge_at g e).price + some.least;
            within = known;
            known = parts.behind.0;
            from = parts.behind.1 ∙ vertex;
            other = none;
            onward = record { rest = some.least; left = kept.0; distance = some.is; sums = refl };
            sums = refl;
          };
          within = omega arith;
        })
  ]

  -- no outsider costs less than every deviation, where that is within the limit
  pub outsiders_above : (most : ℕ) → most ≤ limit →
      ((k e total : ℕ) → DeviatesFromTree g p ends room steps costs k e total → most ≤ total) → CostAtLeast g p ends wanted most
  outsiders_above most far above = λ q outsider. elim (cases_lt (cost g p q) limit) [
    | inl near ↦ (
        let deviated = leaves q outsider near 0 (omega arith) q (ap (λ (es : List ℕ). es ++ q) (sym tree.grown.root)) in
        let least = above deviated.place deviated.edge deviated.total deviated.deviates in
        let within = deviated.within in
        omega arith)
    | inr beyond ↦ omega arith
  ]

  module _ (most place e total : ℕ) (fits : FitsPoint g p) (tied : All (λ w. cost g p w ≡ most) wanted)
      (deviates : DeviatesFromTree g p ends room steps costs place e total) (best : (k i other : ℕ) →
      DeviatesFromTree g p ends room steps costs k i other → total ≤ other) (cheap : total < most + p.scale)
      (far : most + p.scale ≤ limit) where
    -- the best deviation, where it is cheap, makes with any path of least cost a cheapest outsider
    pub cheapest_by : (rest : List ℕ) → IsPathOf g (ends_from ends (edge_at g e).to) rest →
        cost g p rest ≡ deviates.onward.rest →
        IsCheapestOutsider g p ends wanted (most + p.scale) (place_prefix place ++ e ∷ rest)
    cheapest_by rest path costs_so =
        let within : total ≤ limit = omega arith in
        let front = place_prefix place in
        let start = place_joins g ends wanted steps tree place deviates.within in
        let joins = join g ends.start front (e ∷ rest) (place_vertex g ends steps place) ends.end start (deviates.known, deviates.from, path.simple.joins) in
        let kept = each_append (Lacks ends.excluded) front (e ∷ rest) (place_avoids g ends wanted steps tree place deviates.within)
        (deviates.onward.left, path.kept) in
        let here = prefix_cost g ends wanted steps tree p costs (length steps) (omega arith) are place place (omega arith) deviates.within in
        let split = sum_by-append (λ i. price_at p (edge_at g i).price) front (e ∷ rest) in
        let longer = sum_by-cons (λ i. price_at p (edge_at g i).price) e rest in
        let sums = deviates.sums in
        let onward = deviates.onward.sums in
        let whole : cost g p (front ++ e ∷ rest) ≡ total = omega arith in
        let simple = simple_in_walk g p ends.excluded ends.start (front ++ e ∷ rest) ends.end graph fits joins kept in
        let start_known = (begun_path g ends wanted steps tree 0 (omega arith)).simple.start in
        let lesser : cost g p simple.edges + p.scale ≤ cost g p (front ++ e ∷ rest) → ⊥ =
        λ less. (let outsider : IsOutsider g ends wanted simple.edges = record {
          path = record {
            simple = record {
              start = start_known;
              end = path.simple.end;
              joins = simple.joins;
              none_twice = simple.none_twice;
            };
            kept = simple.kept;
          };
          other = λ k d k_in same. (let costs_same = ap (cost g p) same in let all = tied k d k_in in omega (arith, whole, cheap, less, fits.scale));
        } in
        let above = outsiders_above total within best simple.edges outsider in
        omega (arith, whole, less, above, fits.scale)) in
        let once : NoneTwice (visited g ends.start (front ++ e ∷ rest)) = elim simple.same_or_less [
          | inl same ↦ subst (λ (es : List ℕ). NoneTwice (visited g ends.start es)) same simple.none_twice
          | inr less ↦ absurd (lesser less)
        ] in
        record {
          outsider = record {
            path = record { simple = record { start = start_known; end = path.simple.end; joins = joins; none_twice = once }; kept = kept };
            other = λ k d k_in same. deviates.other
                (tree.grown.passed (get_or wanted k d) (k, k_in, get_or_default wanted k _ d k_in) place e rest
                deviates.within (sym same));
          };
          cheap = omega (arith, whole, cheap);
          none_less = λ others outsider. (let above = outsiders_above total within best others outsider in omega (arith, whole, above));
        }

    -- so not every outsider costs as much as the wanted paths and the scale
    pub leads_not : CostAtLeast g p ends wanted (most + p.scale) → ⊥
    leads_not above =
        let edge : FitsEdge g (edge_at g e) = graph.edges e no_edge deviates.known in
        let least = is_least g p (ends_from ends (edge_at g e).to) limit (distance_at room (edge_at g e).to) deviates.onward.rest
        (found.least (edge_at g e).to edge.to) deviates.onward.distance in
        let whole = cheapest_by least.path least.is_path least.costs in
        let no_less = above (place_prefix place ++ e ∷ least.path) whole.outsider in
        let below = whole.cheap in
        omega arith

    -- so there is a way on from the deviation's edge, behind the place's prefix and that edge
    pub way_on : HasWay g p ends (record room { path = place_prefix place ++ e ∷ [] }) (edge_at g e).to
    way_on = record {
      known = (graph.edges e no_edge deviates.known).to;
      least = deviates.onward.rest;
      distance = deviates.onward.distance;
      short = λ rest path costs_so.
          let whole = cheapest_by rest path costs_so in
          let short = simple-short g ends.start (place_prefix place ++ e ∷ rest) ends.end graph whole.outsider.path.simple in
          let count = length-append (place_prefix place) (e ∷ rest) in
          let front = length-append (place_prefix place) (e ∷ []) in
          omega arith;
    }

    pub followed_cheapest : (walk : List ℕ) →
        IsFollowedByLeast g p ends (record room { path = place_prefix place ++ e ∷ [] }) (edge_at g e).to walk →
        IsCheapestOutsider g p ends wanted (most + p.scale) walk
    followed_cheapest walk followed =
        let costs_so = same_Some (cost g p followed.rest) deviates.onward.rest (sym followed.costs ∙ deviates.onward.distance) in
        let whole = cheapest_by followed.rest followed.path costs_so in
        subst (IsCheapestOutsider g p ends wanted (most + p.scale)) (sym (followed.same ∙ append_assoc (place_prefix place) (e ∷ []) followed.rest)) whole
