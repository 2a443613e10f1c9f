-- What the separation needs of a set, and what it tells.
use Rattle.std.proofs.Common.{◌≡◌, ℕ, ◌+◌, ◌<◌, ◌≤◌, sym, ◌∙◌, ap, subst, get_or, List, [], length, arith, Bool, true, false}
use Rattle.std.specs.Prelude.{All, Contains, MatchBool, None, replicate, slice_get}
use Rattle.std.proofs.lemmas.List.{get_or-map, get_or_default, length-map, length-replicate}
use Rattle.std.proofs.lemmas.List.Elements.{All-contains, All-map}
use Rattle.area_graph.specs.declared.Point.{Point}
use Rattle.area_graph.specs.Area.{Area}
use Rattle.area_graph.specs.Paths.{Ends, IsPathOf}
use Rattle.area_graph.specs.Costs.{cost}
use Rattle.design_problem.specs.Problems.{DesignProblem, IsProblem, request_ends, no_request, request_at}
use Rattle.design_problem.specs.Rows.{IsRouteOf, form_between, form_of_row, path_edges}
use Rattle.design_problem.specs.declared.form.Row.{Row}
use Rattle.design_problem.proofs.PathBounds.{request_of_route}
use Rattle.spf_ties.specs.Distances.{Findings, IsRoomFor}
use Rattle.set_separation.specs.Deviations.{IsTiedTree}
use Rattle.set_separation.specs.Outsiders.{CostAtLeast, IsCheapestOutsider}
use Rattle.spread_sets.specs.declared.member_sets.MemberSet.{MemberSet}
use Rattle.spread_sets.specs.declared.spread.SetRow.TheVariants.{Outsider}
use Rattle.spread_sets.specs.Spreads.{AreTied, cost_of_set, edges_of, ends_in, name_of_set, form_of_set_row, paths_of}
use Rattle.spread_sets.specs.MemberSets.{AreMemberSets, HasTree, IsMemberSet, HasTreeWithin, sets_in}
use Rattle.spread_sets.specs.Sources.{AreOutsidersDear, IsOutsiderTooCheap}
use Rattle.spread_sets.specs.SourceLaws.{first_listed, member_known, member_path}
use Rattle.spread_sets.proofs.SetLaws.{listed_at}
use Rattle.spread_sets.proofs.PrintedSets.{route_is}

-- the first member is a wanted path, and its path is one of its request
pub first_known : (p : DesignProblem) (set : List ℕ) → IsMemberSet p set → name_of_set set < length p.requests
first_known p set is = member_known p set (name_of_set set) is (first_listed set is.some)

pub first_path : (p : DesignProblem) (set : List ℕ) → IsProblem p → IsMemberSet p set → IsPathOf p.graph (ends_in p set) (edges_of p (name_of_set set))
first_path p set kept is = member_path p set (name_of_set set) kept is (first_listed set is.some)

pub tied_tree : (p : DesignProblem) (point : Point) (s : MemberSet) → IsProblem p → HasTree p s →
    AreTied p point s.members →
    IsTiedTree p.graph point (ends_in p s.members) (cost_of_set p point s.members) (paths_of p s.members) s.tree
tied_tree p point s kept has tied = record {
  tree = record {
    grown = has.tree;
    paths = All-map (IsPathOf p.graph (ends_in p s.members)) (edges_of p) s.members
        (λ k d k_in. member_path p s.members (get_or s.members k d) kept has.is_set (listed_at s.members k d k_in));
  };
  tied = tied;
}

-- what the separation tells of a set
pub told : (p : DesignProblem) (point : Point) (set es : List ℕ) (found : Bool) →
    MatchBool found (IsCheapestOutsider p.graph point (ends_in p set) (paths_of p set)
    (cost_of_set p point set + point.scale) es)
    (CostAtLeast p.graph point (ends_in p set) (paths_of p set) (cost_of_set p point set + point.scale)) →
    MatchBool found (IsOutsiderTooCheap p point set es) (AreOutsidersDear p point set)
told p point set es true cheapest = record { outsider = cheapest.outsider; cheap = cheapest.cheap }
told p point set es false least = least

-- the sets with trees
pub sets_kept : (p : DesignProblem) (places : ℕ) (sets : List MemberSet) → All (HasTreeWithin p places) sets → AreMemberSets p (sets_in sets)
sets_kept p places sets ready = All-map (IsMemberSet p) (λ (s : MemberSet). s.members) sets (λ k d k_in. (ready k d k_in).has_tree.is_set)

-- a member's path is a route of another one's request
pub tie_route : (p : DesignProblem) (set : List ℕ) (first second : ℕ) → IsProblem p → IsMemberSet p set →
    Contains set first → Contains set second → IsRouteOf p.graph (slice_get p.requests first) (edges_of p second)
tie_route p set first second kept is has_first has_second =
    route_is p.graph p.requests first (edges_of p second) (member_known p set first is has_first)
    (subst (λ (ends : Ends). IsPathOf p.graph ends (edges_of p second))
    (sym (All-contains (λ i. request_ends (request_at p.requests i) ≡ ends_in p set) set first is.ends has_first))
    (member_path p set second kept is has_second))

-- members cost as much as the first one
pub all_tied : (p : DesignProblem) (point : Point) (set : List ℕ) (n first : ℕ) → first ≡ cost_of_set p point set →
    length set ≤ n → ((k : ℕ) → k < n → cost p.graph point (edges_of p (get_or set k 0)) ≡ first) → AreTied p point set
all_tied p point set n first is all same =
    All-map (λ es. cost p.graph point es ≡ cost_of_set p point set) (edges_of p) set
    (λ k d k_in. subst (λ (i : ℕ). cost p.graph point (edges_of p i) ≡ cost_of_set p point set) (get_or_default set k 0 d k_in) (same k (omega arith) ∙ is))

pub not_tied : (p : DesignProblem) (point : Point) (set : List ℕ) (k first : ℕ) → first ≡ cost_of_set p point set →
    k < length set → (cost p.graph point (edges_of p (get_or set k 0)) ≡ first → ⊥) → AreTied p point set → ⊥
not_tied p point set k first is inside other tied =
    other (All-contains (λ es. cost p.graph point es ≡ cost_of_set p point set) (paths_of p set) (edges_of p (get_or set k 0)) tied
    (k, omega (arith, length-map set (edges_of p)), get_or-map (edges_of p) set k 0 (edges_of p (get_or set k 0)) inside) ∙ sym is)

-- it is a route of the first member's request
pub cheap_route : (p : DesignProblem) (point : Point) (set es : List ℕ) (name : ℕ) → IsMemberSet p set →
    IsOutsiderTooCheap p point set es → name ≡ name_of_set set → IsRouteOf p.graph (slice_get p.requests name) es
cheap_route p point set es name is cheap same =
    subst (λ (k : ℕ). IsRouteOf p.graph (slice_get p.requests k) es) (sym same)
    (route_is p.graph p.requests (name_of_set set) es (first_known p set is) cheap.outsider.path)

-- the form of a row of a request is that of an outsider of its path
pub row_form : (p : DesignProblem) (row : Row) → IsRouteOf p.graph (slice_get p.requests row.request) row.rival →
    form_of_row p row ≡ form_of_set_row p (Outsider row.request row.rival)
row_form p row route =
    ap (λ (es : List ℕ). form_between p.graph (length p.low) es row.rival)
    (ap path_edges (request_of_route p.graph p.requests row.request no_request row.rival route).is_there)

pub ready_all : (p : DesignProblem) (places count : ℕ) (sets : List MemberSet) → count ≡ places → All (HasTree p) sets →
    All (λ (set : MemberSet). length set.tree + 1 ≤ places) sets → All (HasTreeWithin p count) sets
ready_all p places count sets same trees most k d k_in =
    record {
      has_tree = trees k d k_in;
      fits = subst (λ (n : ℕ). length (get_or sets k d).tree + 1 ≤ n) (sym same) (most k d k_in);
    }

-- a new room
pub room_new : (g h : Area) (room : Findings) → h ≡ g →
    room ≡ record { costs = replicate (length h.vertices) None; marks = replicate (length h.edges) false; path = [] } →
    IsRoomFor g room
room_new g h room same is =
    subst (λ (a : Area). IsRoomFor a room) same
    (subst (IsRoomFor h) (sym is) (record { vertices = length-replicate (length h.vertices) None; edges = length-replicate (length h.edges) false }))

-- what is known of the row that is made of an outsider of a set
pub record IsOutsiderRow (p : DesignProblem) (point : Point) (set : List ℕ) (row : Row) : Type 0 where
  pub name : row.request ≡ name_of_set set
  pub cheap : IsOutsiderTooCheap p point set row.rival
  pub route : IsRouteOf p.graph (slice_get p.requests row.request) row.rival

-- the row of an outsider that was found for a set
pub found_row : (p : DesignProblem) (point : Point) (set es : List ℕ) (row : Row) → IsMemberSet p set →
    IsOutsiderTooCheap p point set es → row.request ≡ name_of_set set → row.rival ≡ es → IsOutsiderRow p point set row
found_row p point set es row is cheap name edges =
    let outsider = subst (IsOutsiderTooCheap p point set) (sym edges) cheap in
    record { name = name; cheap = outsider; route = cheap_route p point set row.rival row.request is outsider name }
