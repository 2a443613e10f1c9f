-- A path that goes over an edge: the parts before it and behind it.
use Rattle.std.proofs.Common.{◌≡◌, ℕ, ◌+◌, ◌<◌, ◌≤◌, sym, subst, List, [], ◌∷◌, map, length, inl, inr, arith}
use Rattle.std.proofs.lemmas.List.Sums.{sum_by-cons}
use Rattle.cost_base.specs.Lists.{Has, Lacks, NoneTwice}
use Rattle.area_graph.specs.declared.Point.{Point}
use Rattle.area_graph.specs.Area.{Area, FitsGraph, edge_at, no_edge}
use Rattle.area_graph.specs.Paths.{Avoids, Ends, IsPathOf, Joins, visited}
use Rattle.area_graph.specs.Costs.{cost}
use Rattle.change_steps.proofs.Keeping.{paid}

-- what stands before an edge and behind it on a path
record Passage (g : Area) (s e t : ℕ) (es : List ℕ) : Type 0 where
  known : e < length g.edges
  before : List ℕ
  behind : List ℕ
  comes : Joins g s before (edge_at g e).from
  goes : Joins g (edge_at g e).to behind t
  once_before : NoneTwice (visited g s before)
  once_behind : NoneTwice (visited g (edge_at g e).to behind)
  fewer : (v : ℕ) → Lacks (map (λ x. (edge_at g x).to) es) v → Lacks (map (λ x. (edge_at g x).to) before) v
  costs : (p : Point) → cost g p es ≡ cost g p before + (paid g p e + cost g p behind)

passage : (g : Area) (s e t : ℕ) (es : List ℕ) → Joins g s es t → NoneTwice (visited g s es) → Has es e → Passage g s e t es
passage g s e t [] joins once has = absurd has
passage g s e t (x ∷ xs) joins once has = elim has [
  | inl same ↦ subst (λ (y : ℕ). Passage g s y t (x ∷ xs)) (sym same) (record {
    known = joins.0;
    before = [];
    behind = xs;
    comes = sym joins.1;
    goes = joins.2;
    once_before = (tt, tt);
    once_behind = once.1;
    fewer = λ v lacks. tt;
    costs = λ p. let whole = sum_by-cons (paid g p) x xs in omega (arith, whole);
  })
  | inr later ↦
      let rest = passage g (edge_at g x).to e t xs joins.2 once.1 later in
      record {
        known = rest.known;
        before = x ∷ rest.before;
        behind = rest.behind;
        comes = (joins.0, joins.1, rest.comes);
        goes = rest.goes;
        once_before = ((once.0.0, rest.fewer s once.0.1), rest.once_before);
        once_behind = rest.once_behind;
        fewer = λ v lacks. (lacks.0, rest.fewer v lacks.1);
        costs = λ p.
            let whole = sum_by-cons (paid g p) x xs in
            let first = sum_by-cons (paid g p) x rest.before in
            let tail = rest.costs p in
            omega (arith, whole, first, tail);
      }
]

avoids_none : (es : List ℕ) → Avoids [] es
avoids_none [] = tt
avoids_none (e ∷ es) = (tt, avoids_none es)

-- a path over an edge costs at least what paths cost to the edge's start and from its end to the path's, and the edge
pub costs_over : (g : Area) (p : Point) (ends : Ends) (e to_start from_end : ℕ) (es : List ℕ) → FitsGraph g → IsPathOf g ends es → Has es e →
    ((path : List ℕ) → IsPathOf g (record { start = ends.start; end = (edge_at g e).from; excluded = [] }) path → to_start ≤ cost g p path) →
    ((path : List ℕ) → IsPathOf g (record { start = (edge_at g e).to; end = ends.end; excluded = [] }) path → from_end ≤ cost g p path) →
    to_start + (paid g p e + from_end) ≤ cost g p es
costs_over g p ends e to_start from_end es fits path has before behind =
    let over = passage g ends.start e ends.end es path.simple.joins path.simple.none_twice has in
    let edge = fits.edges e no_edge over.known in
    let first = before over.before (record {
      simple = record { start = path.simple.start; end = edge.from; joins = over.comes; none_twice = over.once_before };
      kept = avoids_none over.before;
    }) in
    let last = behind over.behind (record {
      simple = record { start = edge.to; end = path.simple.end; joins = over.goes; none_twice = over.once_behind };
      kept = avoids_none over.behind;
    }) in
    let whole = over.costs p in
    omega (arith, first, last, whole)
