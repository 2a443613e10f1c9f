-- One pass over the edges: the numbers fall, and stay what walks to the target cost at most.
use Rattle.std.proofs.Common.{◌≡◌, ℕ, ◌+◌, ◌<◌, ◌≤◌, refl, sym, ◌∙◌, ap, subst, List, [], ◌∷◌, All, length, get_or, set, replicate, sum, Bool, true, false, arith, get_or-set_same, get_or-set_other, length-set, below_more}
use Rattle.std.proofs.lemmas.List.{get_or-replicate, length-replicate}
use Rattle.std.proofs.lemmas.List.Elements.{All-set}
use Rattle.std.proofs.lemmas.List.Sums.{sum_by-cons, sum_by-set}
use native.Mathlib.Decide.{ℕ_discrete}
use Rattle.cost_base.specs.Lists.{Lacks}
use Rattle.area_graph.specs.declared.Point.{Point}
use Rattle.area_graph.specs.Area.{Area, edge_at, no_edge, FitsGraph, FitsEdge}
use Rattle.area_graph.specs.Costs.{price_at}
use Rattle.area_graph.specs.Distances.{far, WalkWithin, AreReached, through, SettledBelow, StaysBy, ShorterBy}

-- what a pass has done after n edges: from `old` to `d`, whether a number was lowered
pub record Passed (g : Area) (p : Point) (excluded : List ℕ) (n : ℕ) (old d : List ℕ) (lowered : Bool) : Type 0 where
  pub count : length d ≡ length old
  pub bounded : All (λ x. x ≤ far p) d
  pub reached : (t limit : ℕ) → AreReached g p excluded t limit old → AreReached g p excluded t limit d
  pub lower : lowered ≡ true → sum d < sum old
  pub same : lowered ≡ false → sum d ≡ sum old
  pub settled : lowered ≡ false → SettledBelow n g p excluded d

-- a pass begins
pub passed_none : (g : Area) (p : Point) (excluded : List ℕ) (d : List ℕ) → All (λ x. x ≤ far p) d → Passed g p excluded 0 d d false
passed_none g p excluded d bounded = record {
  count = refl;
  bounded = bounded;
  reached = λ t limit are. are;
  lower = λ h. absurd (clash h);
  same = λ h. refl;
  settled = λ h e below lacks. absurd (omega arith);
}
  where
    clash : false ≡ true → ⊥
    clash h = cc

-- an edge that is excluded, or leads to no smaller number
pub passed_stays : (g : Area) (p : Point) (excluded : List ℕ) (n : ℕ) (old d new : List ℕ) (lowered : Bool) →
    Passed g p excluded n old d lowered → new ≡ d → (Lacks excluded n → StaysBy p (edge_at g n) d new) →
    Passed g p excluded (n + 1) old new lowered
passed_stays g p excluded n old d new lowered passed same stays =
    subst (λ (xs : List ℕ). Passed g p excluded (n + 1) old xs lowered) (sym same)
    (record {
      count = passed.count;
      bounded = passed.bounded;
      reached = passed.reached;
      lower = passed.lower;
      same = passed.same;
      settled = λ h. below_more (λ (e : ℕ). Lacks excluded e → get_or d (edge_at g e).from 0 ≤ through p (edge_at g e) d) n
          (passed.settled h) (λ lacks. (stays lacks).least);
    })

-- a walk from an edge's start, by the edge and then by a walk from its end
walk_more : (g : Area) (p : Point) (excluded : List ℕ) (n t : ℕ) (d : List ℕ) → n < length g.edges → Lacks excluded n →
    WalkWithin g p excluded (edge_at g n).to t (get_or d (edge_at g n).to 0) →
    WalkWithin g p excluded (edge_at g n).from t (through p (edge_at g n) d)
walk_more g p excluded n t d known lacks walk =
    let longer = sum_by-cons (λ i. price_at p (edge_at g i).price) n walk.edges in
    record {
      edges = n ∷ walk.edges;
      joins = (known, refl, walk.joins);
      kept = (lacks, walk.kept);
      within = omega (arith, longer, walk.within);
    }

-- a number that is lowered to what a walk costs
pub reached_by_walk : (g : Area) (p : Point) (excluded : List ℕ) (t limit v x : ℕ) (d : List ℕ) → v < length d →
    x < get_or d v 0 → (x < limit → WalkWithin g p excluded v t x) → AreReached g p excluded t limit d →
    AreReached g p excluded t limit (set d v x)
reached_by_walk g p excluded t limit v x d within less walk are = record {
  target = elim (ℕ_discrete t v) [
    | yes same ↦ let nothing = ap (λ (i : ℕ). get_or d i 0) same in let target = are.target in absurd (omega arith)
    | no other ↦ get_or-set_other d v t x 0 other ∙ are.target
  ];
  reached = λ u inside near. elim (ℕ_discrete u v) [
    | yes same ↦
        let value : get_or (set d v x) u 0 ≡ x = ap (λ (i : ℕ). get_or (set d v x) i 0) same ∙ get_or-set_same d v x 0 within in
        subst (λ (y : ℕ). WalkWithin g p excluded u t y) (sym value)
        (subst (λ (i : ℕ). WalkWithin g p excluded i t x) (sym same) (walk (subst (λ (y : ℕ). y < limit) value near)))
    | no other ↦
        let value : get_or (set d v x) u 0 ≡ get_or d u 0 = get_or-set_other d v u x 0 other in
        subst (λ (y : ℕ). WalkWithin g p excluded u t y) (sym value)
        (are.reached u (subst (λ (n : ℕ). u < n) (length-set d v x) inside)
        (subst (λ (y : ℕ). y < limit) value near))
  ];
}

-- the numbers after one was lowered are still what walks cost at most
reached_lower : (g : Area) (p : Point) (excluded : List ℕ) (n t limit : ℕ) (d : List ℕ) → FitsEdge g (edge_at g n) →
    length d ≡ length g.vertices → n < length g.edges → Lacks excluded n →
    through p (edge_at g n) d < get_or d (edge_at g n).from 0 → AreReached g p excluded t limit d →
    AreReached g p excluded t limit (set d (edge_at g n).from (through p (edge_at g n) d))
reached_lower g p excluded n t limit d edge count known lacks less are =
    reached_by_walk g p excluded t limit (edge_at g n).from (through p (edge_at g n) d) d from_within less walk are
  where
    from_within : (edge_at g n).from < length d
    from_within = omega (arith, edge.from, count)

    to_within : (edge_at g n).to < length d
    to_within = omega (arith, edge.to, count)

    walk : through p (edge_at g n) d < limit → WalkWithin g p excluded (edge_at g n).from t (through p (edge_at g n) d)
    walk near = walk_more g p excluded n t d known lacks (are.reached (edge_at g n).to to_within (omega arith))

-- an edge that led to a smaller number
pub passed_lower : (g : Area) (p : Point) (excluded : List ℕ) (n : ℕ) (old d new : List ℕ) (lowered : Bool) → FitsGraph g →
    length old ≡ length g.vertices → Passed g p excluded n old d lowered → n < length g.edges → Lacks excluded n →
    ShorterBy p (edge_at g n) d new → Passed g p excluded (n + 1) old new true
passed_lower g p excluded n old d new lowered graph count passed known lacks shorter =
    subst (λ (xs : List ℕ). Passed g p excluded (n + 1) old xs true) (sym shorter.set)
    (record {
      count = size ∙ passed.count;
      bounded = All-set (λ x. x ≤ far p) d (edge_at g n).from (through p (edge_at g n) d) (omega (arith, most, shorter.less)) passed.bounded;
      reached = λ t limit are. reached_lower g p excluded n t limit d edge (passed.count ∙ count) known lacks shorter.less (passed.reached t limit are);
      lower = λ h. falls;
      same = λ h. absurd (clash h);
      settled = λ h. absurd (clash h);
    })
  where
    edge : FitsEdge g (edge_at g n)
    edge = graph.edges n no_edge known

    from_within : (edge_at g n).from < length d
    from_within = omega (arith, edge.from, passed.count, count)

    size : length (set d (edge_at g n).from (through p (edge_at g n) d)) ≡ length d
    size = length-set d (edge_at g n).from (through p (edge_at g n) d)

    most : get_or d (edge_at g n).from 0 ≤ far p
    most = passed.bounded (edge_at g n).from 0 from_within

    clash : true ≡ false → ⊥
    clash h = cc

    at_most : (b : Bool) → (b ≡ true → sum d < sum old) → (b ≡ false → sum d ≡ sum old) → sum d ≤ sum old
    at_most true less same = let h = less refl in omega (arith, h)
    at_most false less same = let h = same refl in omega (arith, h)

    falls : sum (set d (edge_at g n).from (through p (edge_at g n) d)) < sum old
    falls =
        let step = sum_by-set (λ (x : ℕ). x) d (edge_at g n).from (through p (edge_at g n) d) 0 from_within in
        let before = at_most lowered passed.lower passed.same in
        omega (arith, step, before, shorter.less)

-- at the start only the target's number is below the limit
pub reached_none : (g : Area) (p : Point) (excluded : List ℕ) (t limit n : ℕ) → t < n → AreReached g p excluded t limit (set (replicate n limit) t 0)
reached_none g p excluded t limit n within = record {
  target = get_or-set_same (replicate n limit) t 0 0 (let size = length-replicate n limit in omega (arith, size, within));
  reached = λ v inside near. elim (ℕ_discrete v t) [
    | yes same ↦ let value : get_or (set (replicate n limit) t 0) v 0 ≡ 0 =
        ap (λ (i : ℕ). get_or (set (replicate n limit) t 0) i 0) same
        ∙ get_or-set_same (replicate n limit) t 0 0 (let size = length-replicate n limit in
        omega (arith, size, within)) in
        record { edges = []; joins = same; kept = tt; within = omega (arith, value) }
    | no other ↦
        let size = length-replicate n limit in
        let kept = length-set (replicate n limit) t 0 in
        let value : get_or (set (replicate n limit) t 0) v 0 ≡ limit =
        get_or-set_other (replicate n limit) t v 0 0 other
        ∙ get_or-replicate n v limit 0 (omega (arith, size, kept, inside)) in
        absurd (omega (arith, value, near))
  ];
}
