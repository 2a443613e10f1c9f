-- A path is only cheapest exactly where it leads: where at each of its vertices each other edge leads to a higher cost.
use Rattle.std.proofs.Common.{◌≡◌, ◌≢◌, ◌↔◌, ℕ, ◌+◌, ◌<◌, ◌≤◌, refl, sym, ◌∙◌, ap, subst, List, [], ◌∷◌, length, get_or, inl, inr, arith}
use Rattle.std.proofs.lemmas.Bool.{cases_lt}
use Rattle.std.proofs.lemmas.List.Sums.{sum_by-cons}
use Rattle.cost_base.specs.Lists.{Lacks}
use Rattle.area_graph.specs.declared.Point.{Point}
use Rattle.area_graph.specs.Area.{Area, edge_at, no_edge, FitsGraph, FitsEdge}
use Rattle.area_graph.specs.Paths.{Joins, Avoids, Ends, IsPathOf}
use Rattle.area_graph.specs.Costs.{price_at, cost, FitsPoint, IsOnlyCheapest}
use Rattle.area_graph.specs.Distances.{far, AreReached, through, SettledBelow, LeadsToMore, OtherEdgesLeadToMore}
use Rattle.area_graph.proofs.Walks.{SimpleIn, simple_in_walk, simple_costs-le, potential-le}
use Rattle.area_graph.proofs.Deviations.{Deviates, rival_deviates, deviation_joins, deviation_differs}
use Rattle.area_graph.proofs.ListedEdges.{all_out, out_all}

-- where a path leads, each walk that leaves it costs more
pub deviation_dearer : (g : Area) (p : Point) (excluded : List ℕ) (t : ℕ) (d : List ℕ) →
    SettledBelow (length g.edges) g p excluded d → get_or d t 0 ≡ 0 → (u : ℕ) (path walk : List ℕ) → Joins g u path t →
    OtherEdgesLeadToMore g p excluded d path → Deviates g excluded t u path walk → cost g p path < cost g p walk
deviation_dearer g p excluded t d settled target u [] walk joins leads deviates = absurd deviates
deviation_dearer g p excluded t d settled target u (e ∷ path) [] joins leads deviates = absurd deviates
deviation_dearer g p excluded t d settled target u (e ∷ path) (i ∷ rest) joins leads deviates =
    let longer = sum_by-cons (λ k. price_at p (edge_at g k).price) i rest in
    elim deviates [
      | inl leaves ↦
          let dearer = out_all (LeadsToMore g p excluded d e (cost g p (e ∷ path))) g (edge_at g e).from leads.0 i
          leaves.1.known (leaves.1.from_u ∙ sym joins.1) leaves.1.there leaves.0 in
          let least = potential-le g p excluded (λ v. get_or d v 0) (λ k known lacks. settled k known lacks) (edge_at g i).to rest t leaves.1.joins
          leaves.1.kept in
          omega (arith, dearer, least, longer, target)
      | inr along ↦
          let later = deviation_dearer g p excluded t d settled target (edge_at g e).to path rest joins.2 leads.1 along.1 in
          let whole = sum_by-cons (λ k. price_at p (edge_at g k).price) e path in
          let same = ap (λ (k : ℕ). price_at p (edge_at g k).price) along.0 in
          omega (arith, later, longer, whole, same)
    ]

-- where each walk that leaves a path costs more, the path leads
pub leads_from_dearer : (g : Area) (p : Point) (excluded : List ℕ) (t : ℕ) (d : List ℕ) → FitsGraph g → FitsPoint g p →
    length d ≡ length g.vertices → AreReached g p excluded t (far p) d → (u : ℕ) (path : List ℕ) → Joins g u path t →
    cost g p path < far p → ((walk : List ℕ) → Deviates g excluded t u path walk → cost g p path < cost g p walk) →
    OtherEdgesLeadToMore g p excluded d path
leads_from_dearer g p excluded t d graph fits count are u [] joins near dearer = tt
leads_from_dearer g p excluded t d graph fits count are u (e ∷ path) joins near dearer = (
  all_out (LeadsToMore g p excluded d e (cost g p (e ∷ path))) g (edge_at g e).from (λ i known from lacks other.
      elim (cases_lt (cost g p (e ∷ path)) (through p (edge_at g i) d)) [
        | inl more ↦ more
        | inr cheap ↦ absurd (rival i known (from ∙ joins.1) lacks other cheap)
      ]),
  leads_from_dearer g p excluded t d graph fits count are (edge_at g e).to path joins.2 (omega (arith, longer)) (λ walk deviates.
      let whole = dearer (e ∷ walk) (inr (refl, deviates)) in
      let longer_walk = sum_by-cons (λ k. price_at p (edge_at g k).price) e walk in
      omega (arith, whole, longer, longer_walk)),
)
  where
    longer : cost g p (e ∷ path) ≡ price_at p (edge_at g e).price + cost g p path
    longer = sum_by-cons (λ k. price_at p (edge_at g k).price) e path

    rival : (i : ℕ) → i < length g.edges → (edge_at g i).from ≡ u → Lacks excluded i → i ≢ e → through p (edge_at g i) d ≤ cost g p (e ∷ path) → ⊥
    rival i known from lacks other cheap =
        let edge : FitsEdge g (edge_at g i) = graph.edges i no_edge known in
        let walk = are.reached (edge_at g i).to (omega (arith, edge.to, count)) (omega (arith, cheap, near)) in
        let simple = simple_in_walk g p excluded (edge_at g i).to walk.edges t graph fits walk.joins walk.kept in
        let most = simple_costs-le g p excluded (edge_at g i).to t walk.edges simple in
        let more = dearer (i ∷ simple.edges)
        (inl (
          other,
          record {
            known = known;
            from_u = from;
            there = lacks;
            joins = simple.joins;
            none_twice = simple.none_twice;
            kept = simple.kept;
          },
        )) in
        let longer_walk = sum_by-cons (λ k. price_at p (edge_at g k).price) i simple.edges in
        omega (arith, more, longer_walk, most, walk.within, cheap)

-- each walk that leaves an only cheapest path costs more
only_dearer : (g : Area) (p : Point) (ends : Ends) (path walk : List ℕ) → FitsGraph g → FitsPoint g p →
    IsOnlyCheapest g p ends path → Deviates g ends.excluded ends.end ends.start path walk → cost g p path < cost g p walk
only_dearer g p ends path walk graph fits only deviates =
    elim simple.same_or_less [
      | inl same ↦ subst (λ (es : List ℕ). cost g p path < cost g p es) same
          (only.others simple.edges is_path
          (λ equal. deviation_differs g ends.excluded ends.end ends.start path walk deviates (sym same ∙ equal)))
      | inr less ↦
          elim (cases_lt (cost g p simple.edges) (cost g p path)) [
            | inl below ↦ absurd (beaten below)
            | inr above ↦ omega (arith, less, above, fits.scale)
          ]
    ]
  where
    whole : Joins g ends.start walk ends.end × Avoids ends.excluded walk
    whole = deviation_joins g ends.excluded ends.end ends.start path walk only.path.simple.joins only.path.kept deviates

    simple : SimpleIn g p ends.excluded ends.start ends.end walk
    simple = simple_in_walk g p ends.excluded ends.start walk ends.end graph fits whole.0 whole.1

    is_path : IsPathOf g ends simple.edges
    is_path = record {
      simple = record { start = only.path.simple.start; end = only.path.simple.end; joins = simple.joins; none_twice = simple.none_twice };
      kept = simple.kept;
    }

    beaten : cost g p simple.edges < cost g p path → ⊥
    beaten below =
        let more = only.others simple.edges is_path (λ equal. differs equal below) in
        omega (arith, more, below)
      where
        differs : simple.edges ≡ path → cost g p simple.edges < cost g p path → ⊥
        differs equal less = let costs = ap (cost g p) equal in omega (arith, costs, less)

-- a path of a request leads exactly where it is only cheapest
pub leads_only : (g : Area) (p : Point) (ends : Ends) (d : List ℕ) (path : List ℕ) → FitsGraph g → FitsPoint g p →
    length d ≡ length g.vertices → AreReached g p ends.excluded ends.end (far p) d →
    SettledBelow (length g.edges) g p ends.excluded d → cost g p path < far p → IsPathOf g ends path →
    OtherEdgesLeadToMore g p ends.excluded d path ↔ IsOnlyCheapest g p ends path
leads_only g p ends d path graph fits count are settled near is_path = (
  λ leads. record {
    path = is_path;
    others = λ other is_other differs.
        deviation_dearer g p ends.excluded ends.end d settled are.target ends.start path other is_path.simple.joins leads
        (rival_deviates g ends.excluded ends.end ends.start path other is_path.simple.joins is_path.simple.none_twice
        is_other.simple.joins is_other.simple.none_twice is_other.kept differs);
  },
  λ only. leads_from_dearer g p ends.excluded ends.end d graph fits count are ends.start path is_path.simple.joins near
      (λ walk deviates. only_dearer g p ends path walk graph fits only deviates),
)
