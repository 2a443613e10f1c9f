-- The steps of a search for least costs.
use Rattle.std.proofs.Common.{◌≡◌, ◌≢◌, ℕ, zero, suc, ◌+◌, ◌<◌, ◌≤◌, refl, sym, ◌∙◌, ap, subst, List, [], ◌∷◌, All, length, get_or, set, replicate, Bool, true, false, not, cond, eqb, eq-eqb, count_by, inl, inr, ◌⊎◌, arith, get_or-set_same, get_or-set_other, length-set, IsPermutation, Contains}
use Rattle.std.proofs.lemmas.Bool.{cases_lt, eqb-true, ne_eqb}
use Rattle.std.proofs.lemmas.List.{get_or-replicate, length-replicate}
use Rattle.std.proofs.lemmas.List.Elements.{All-head, All-tail, All-nil, All-cons, All-set, All-contains, All-replicate, All-weaker}
use Rattle.std.proofs.lemmas.List.Sorted.{All-permutation, Contains-permutation}
use Rattle.std.proofs.lemmas.List.Sums.{sum_by-cons, count_by-le-length, length-filter}
use native.Mathlib.Decide.{ℕ_discrete}
use Rattle.cost_base.specs.Lists.{Lacks, numbers_from}
use Rattle.cost_base.proofs.ListLemmas.{length-numbers_from, all_kept, kept_all, all_lacks, contains_later}
use Rattle.cost_base.specs.Marks.{is_marked}
use Rattle.area_graph.specs.declared.Point.{Point}
use Rattle.area_graph.specs.Area.{Area, edge_at, edges_in, no_edge, FitsGraph, FitsEdge}
use Rattle.area_graph.specs.Costs.{price_at}
use Rattle.area_graph.specs.Distances.{far, WalkWithin, through}
use Rattle.area_graph.proofs.PassSteps.{reached_by_walk, reached_none}
use Rattle.spf_ties.specs.declared.heap.WaitingVertex.{WaitingVertex}
use Rattle.spf_ties.specs.Searches.{AreSearchNumbers, open_edges, MayWait, LeadsToLast, Underway}

clash : {P : Type 0} → true ≡ false → P
clash h = cc

-- what waits for a vertex
abbrev pub entry_of : ℕ → ℕ → WaitingVertex
entry_of x v = record { distance = x; vertex = v }

-- an element is the first, or stands behind it
contains_cases : (x y : WaitingVertex) (xs : List WaitingVertex) → Contains (x ∷ xs) y → (x ≡ y) ⊎ Contains xs y
contains_cases x y xs has = by_place has.0 has.1 has.2
  where
    by_place : (k : ℕ) → k < length (x ∷ xs) → get_or (x ∷ xs) k y ≡ y → (x ≡ y) ⊎ Contains xs y
    by_place zero within is = inl is
    by_place (suc k) within is = inr (k, omega arith, is)

contains_first : (x : WaitingVertex) (xs : List WaitingVertex) → Contains (x ∷ xs) x
contains_first x xs = (zero, omega arith, refl)

-- an edge into a vertex is among those into it
not_lacked : (g : Area) (v e : ℕ) → e < length g.edges → (edge_at g e).to ≡ v → Lacks (edges_in g v) e → ⊥
not_lacked g v e known to lacks =
    kept_all (λ y. e ≢ y) (λ i. eqb (edge_at g i).to v) 0 (length g.edges) (all_lacks (edges_in g v) e lacks) e
    (omega arith) (omega arith) (eq-eqb (edge_at g e).to v to) refl

-- the edges into a vertex are edges of the graph
pub in_known : (g : Area) (v : ℕ) → All (λ e. e < length g.edges) (edges_in g v)
in_known g v = all_kept (λ e. e < length g.edges) (λ e. eqb (edge_at g e).to v) 0 (length g.edges) (λ e above below yes. omega arith)

-- at the start no vertex is settled
none_settled : (n v : ℕ) → is_marked (replicate n false) v ≡ false
none_settled zero v = refl
none_settled (suc n) zero = refl
none_settled (suc n) (suc v) = none_settled n v

-- an entry of a settled vertex is passed over
pub passed_over : (g : Area) (p : Point) (excluded : List ℕ) (t limit least : ℕ) (d : List ℕ) (settled : List Bool)
    (entry : WaitingVertex) (waiting rest : List WaitingVertex) → Underway g p excluded t limit least [] d settled waiting →
    IsPermutation waiting (entry ∷ rest) → is_marked settled entry.vertex ≡ true →
    Underway g p excluded t limit least [] d settled rest
passed_over g p excluded t limit least d settled entry waiting rest under moved done = record {
  reached = under.reached;
  bounded = under.bounded;
  before = under.before;
  waits = λ v known unsettled near.
      elim (contains_cases entry (entry_of (get_or d v 0) v) rest
      (Contains-permutation waiting (entry ∷ rest) (entry_of (get_or d v 0) v) moved
      (under.waits v known unsettled near))) [
        | inl same ↦ clash (sym done ∙ ap (λ (e : WaitingVertex). is_marked settled e.vertex) same ∙ unsettled)
        | inr later ↦ later
      ];
  entries = All-tail (MayWait limit least d) entry rest (All-permutation (MayWait limit least d) waiting (entry ∷ rest) moved under.entries);
  edges = under.edges;
  closed = under.closed;
}

-- the nearest vertex that waits is settled, and the edges into it are yet to be looked at
pub settled_next : (g : Area) (p : Point) (excluded : List ℕ) (t limit least : ℕ) (d : List ℕ) (settled : List Bool)
    (entry : WaitingVertex) (waiting rest : List WaitingVertex) → AreSearchNumbers g p d settled →
    Underway g p excluded t limit least [] d settled waiting → IsPermutation waiting (entry ∷ rest) →
    All (λ other. entry.distance ≤ other.distance) waiting → is_marked settled entry.vertex ≡ false →
    Underway g p excluded t limit entry.distance (edges_in g entry.vertex) d (set settled entry.vertex true) rest
settled_next g p excluded t limit least d settled entry waiting rest front under moved nearest unsettled = record {
  reached = under.reached;
  bounded = under.bounded;
  before = before;
  waits = waits;
  entries = λ i other within. let may = may_wait i other within in let near = nearer i other within in
      record { known = may.known; near = may.near; later = near; not_below = may.not_below };
  edges = all_kept (LeadsToLast g entry.distance d marked) (λ e. eqb (edge_at g e).to entry.vertex) 0 (length g.edges)
      (λ e above below yes. leads e (omega arith) (eqb-true (edge_at g e).to entry.vertex yes));
  closed = closed;
}
  where
    marked : List Bool
    marked = set settled entry.vertex true

    first : MayWait limit least d entry
    first = All-head (MayWait limit least d) entry rest (All-permutation (MayWait limit least d) waiting (entry ∷ rest) moved under.entries)

    may_wait : All (MayWait limit least d) rest
    may_wait = All-tail (MayWait limit least d) entry rest (All-permutation (MayWait limit least d) waiting (entry ∷ rest) moved under.entries)

    nearer : All (λ other. entry.distance ≤ other.distance) rest
    nearer = All-tail (λ (other : WaitingVertex). entry.distance ≤ other.distance) entry rest
        (All-permutation (λ (other : WaitingVertex). entry.distance ≤ other.distance) waiting (entry ∷ rest) moved nearest)

    within : entry.vertex < length settled
    within = let known = first.known in let count = front.count in let marks = front.marks in omega arith

    here : is_marked (set settled entry.vertex true) entry.vertex ≡ true
    here = get_or-set_same settled entry.vertex true false within

    there : (v : ℕ) → v ≢ entry.vertex → is_marked (set settled entry.vertex true) v ≡ is_marked settled v
    there v other = get_or-set_other settled entry.vertex v true false other

    at_most : get_or d entry.vertex 0 ≤ entry.distance
    at_most = first.not_below

    at_least : entry.distance ≤ get_or d entry.vertex 0
    at_least = elim (cases_lt (get_or d entry.vertex 0) limit) [
      | inl near ↦ All-contains (λ (other : WaitingVertex). entry.distance ≤ other.distance) waiting (entry_of (get_or d entry.vertex 0) entry.vertex) nearest
          (under.waits entry.vertex first.known unsettled near)
      | inr more ↦ omega (arith, first.near, more)
    ]

    before : (v : ℕ) → is_marked (set settled entry.vertex true) v ≡ true → get_or d v 0 ≤ entry.distance
    before v done = elim (ℕ_discrete v entry.vertex) [
      | yes same ↦ let value = ap (λ (i : ℕ). get_or d i 0) same in let most = first.not_below in omega arith
      | no other ↦ let earlier = under.before v (sym (there v other) ∙ done) in let later = first.later in omega arith
    ]

    waits : (v : ℕ) → v < length d → is_marked (set settled entry.vertex true) v ≡ false → get_or d v 0 < limit → Contains rest (entry_of (get_or d v 0) v)
    waits v known still near = elim (ℕ_discrete v entry.vertex) [
      | yes same ↦ clash (sym here ∙ ap (is_marked (set settled entry.vertex true)) (sym same) ∙ still)
      | no other ↦ elim (contains_cases entry (entry_of (get_or d v 0) v) rest
          (Contains-permutation waiting (entry ∷ rest) (entry_of (get_or d v 0) v) moved
          (under.waits v known (sym (there v other) ∙ still) near))) [
            | inl same ↦ absurd (other (sym (ap (λ (e : WaitingVertex). e.vertex) same)))
            | inr later ↦ later
          ]
    ]

    leads : (e : ℕ) → e < length g.edges → (edge_at g e).to ≡ entry.vertex → LeadsToLast g entry.distance d (set settled entry.vertex true) e
    leads e known to = record {
      known = known;
      is_settled_there = ap (is_marked (set settled entry.vertex true)) to ∙ here;
      last = let value = ap (λ (i : ℕ). get_or d i 0) to in let least = at_least in omega arith;
    }

    closed : (e : ℕ) → e < length g.edges → Lacks excluded e → is_marked (set settled entry.vertex true) (edge_at g e).to
        ≡ true → Lacks (edges_in g entry.vertex) e → get_or d (edge_at g e).from 0 ≤ through p (edge_at g e) d
    closed e known left done lacks = elim (ℕ_discrete (edge_at g e).to entry.vertex) [
      | yes same ↦ absurd (not_lacked g entry.vertex e known same lacks)
      | no other ↦ under.closed e known left (sym (there (edge_at g e).to other) ∙ done) tt
    ]

-- an edge that is excluded, or leads to no smaller number
pub kept : (g : Area) (p : Point) (excluded : List ℕ) (t limit least e : ℕ) (todo : List ℕ) (d : List ℕ)
    (settled : List Bool) (waiting : List WaitingVertex) → Underway g p excluded t limit least (e ∷ todo) d settled waiting →
    (Lacks excluded e → get_or d (edge_at g e).from 0 ≤ through p (edge_at g e) d) →
    Underway g p excluded t limit least todo d settled waiting
kept g p excluded t limit least e todo d settled waiting under short = record {
  reached = under.reached;
  bounded = under.bounded;
  before = under.before;
  waits = under.waits;
  entries = under.entries;
  edges = All-tail (LeadsToLast g least d settled) e todo under.edges;
  closed = λ i known left done lacks. elim (ℕ_discrete i e) [
    | yes same ↦ subst (λ (k : ℕ). Lacks excluded k → get_or d (edge_at g k).from 0 ≤ through p (edge_at g k) d) (sym same) short left
    | no other ↦ under.closed i known left done (other, lacks)
  ];
}

-- an edge that leads to a smaller number: it is lowered, and its vertex waits under it
pub lowered : (g : Area) (p : Point) (excluded : List ℕ) (t limit least e : ℕ) (todo : List ℕ) (d : List ℕ)
    (settled : List Bool) (waiting new : List WaitingVertex) → FitsGraph g → AreSearchNumbers g p d settled →
    Underway g p excluded t limit least (e ∷ todo) d settled waiting → Lacks excluded e →
    through p (edge_at g e) d < get_or d (edge_at g e).from 0 →
    IsPermutation (entry_of (through p (edge_at g e) d) (edge_at g e).from ∷ waiting) new →
    Underway g p excluded t limit least todo (set d (edge_at g e).from (through p (edge_at g e) d)) settled new
lowered g p excluded t limit least e todo d settled waiting new graph front under left less moved = record {
  reached = reached_by_walk g p excluded t limit from x d within less walk under.reached;
  bounded = All-set (λ y. y ≤ limit) d from x (let most = bound in omega (arith, less)) under.bounded;
  before = λ v done. let old = under.before v done in let value = settled_same v done in omega arith;
  waits = waits;
  entries = All-permutation (MayWait limit least now) (entry_of x from ∷ waiting) new moved
      (All-cons (MayWait limit least now) (entry_of x from) waiting first others);
  edges = λ i other inside. let old = rest i other inside in
      record {
        known = old.known;
        is_settled_there = old.is_settled_there;
        last = let value = settled_same (edge_at g (get_or todo i other)).to old.is_settled_there in let least_there =
            old.last in omega arith;
      };
  closed = closed;
}
  where
    from : ℕ
    from = (edge_at g e).from

    x : ℕ
    x = through p (edge_at g e) d

    now : List ℕ
    now = set d (edge_at g e).from (through p (edge_at g e) d)

    head : LeadsToLast g least d settled e
    head = All-head (LeadsToLast g least d settled) e todo under.edges

    rest : All (LeadsToLast g least d settled) todo
    rest = All-tail (LeadsToLast g least d settled) e todo under.edges

    edge : FitsEdge g (edge_at g e)
    edge = graph.edges e no_edge head.known

    within : (edge_at g e).from < length d
    within = let known = edge.from in let count = front.count in omega arith

    to_within : (edge_at g e).to < length d
    to_within = let known = edge.to in let count = front.count in omega arith

    bound : get_or d (edge_at g e).from 0 ≤ limit
    bound = under.bounded (edge_at g e).from 0 within

    unsettled : is_marked settled (edge_at g e).from ≡ false
    unsettled = go (is_marked settled (edge_at g e).from) refl
      where
        go : (b : Bool) → is_marked settled (edge_at g e).from ≡ b → is_marked settled (edge_at g e).from ≡ false
        go false is = is
        go true is = let early = under.before (edge_at g e).from is in let last = head.last in absurd (omega (arith, less))

    walk : through p (edge_at g e) d < limit → WalkWithin g p excluded (edge_at g e).from t (through p (edge_at g e) d)
    walk near =
        let behind = under.reached.reached (edge_at g e).to to_within (omega arith) in
        let longer = sum_by-cons (λ i. price_at p (edge_at g i).price) e behind.edges in
        record {
          edges = e ∷ behind.edges;
          joins = (head.known, refl, behind.joins);
          kept = (left, behind.kept);
          within = let cost = behind.within in omega arith;
        }

    here : get_or (set d (edge_at g e).from (through p (edge_at g e) d)) (edge_at g e).from 0 ≡ through p (edge_at g e) d
    here = get_or-set_same d (edge_at g e).from (through p (edge_at g e) d) 0 within

    there : (v : ℕ) → v ≢ (edge_at g e).from → get_or (set d (edge_at g e).from (through p (edge_at g e) d)) v 0 ≡ get_or d v 0
    there v other = get_or-set_other d (edge_at g e).from v (through p (edge_at g e) d) 0 other

    settled_same : (v : ℕ) → is_marked settled v ≡ true → get_or (set d (edge_at g e).from (through p (edge_at g e) d)) v 0 ≡ get_or d v 0
    settled_same v done = there v (λ same. clash (sym done ∙ ap (is_marked settled) same ∙ unsettled))

    not_more : (v : ℕ) → get_or (set d (edge_at g e).from (through p (edge_at g e) d)) v 0 ≤ get_or d v 0
    not_more v = elim (ℕ_discrete v (edge_at g e).from) [
      | yes same ↦ let value = ap (λ (i : ℕ). get_or (set d (edge_at g e).from (through p (edge_at g e) d)) i 0) same in
          let old = ap (λ (i : ℕ). get_or d i 0) same in let is = here in omega (arith, less)
      | no other ↦ let value = there v other in omega arith
    ]

    size : length (set d (edge_at g e).from (through p (edge_at g e) d)) ≡ length d
    size = length-set d (edge_at g e).from (through p (edge_at g e) d)

    first : MayWait limit least (set d (edge_at g e).from (through p (edge_at g e) d)) (entry_of (through p (edge_at g e) d) (edge_at g e).from)
    first = record {
      known = let known = within in let same = size in omega arith;
      near = let most = bound in omega (arith, less);
      later = let last = head.last in omega arith;
      not_below = let value = here in omega arith;
    }

    others : All (MayWait limit least (set d (edge_at g e).from (through p (edge_at g e) d))) waiting
    others i other inside = let may = under.entries i other inside in record {
      known = let known = may.known in let same = size in omega arith;
      near = may.near;
      later = may.later;
      not_below = let old = may.not_below in let less = not_more (get_or waiting i other).vertex in omega arith;
    }

    waits : (v : ℕ) → v < length (set d (edge_at g e).from (through p (edge_at g e) d)) → is_marked settled v ≡ false →
        get_or (set d (edge_at g e).from (through p (edge_at g e) d)) v 0 < limit →
        Contains new (entry_of (get_or (set d (edge_at g e).from (through p (edge_at g e) d)) v 0) v)
    waits v known still near = elim (ℕ_discrete v (edge_at g e).from) [
      | yes same ↦
          let value : get_or (set d (edge_at g e).from (through p (edge_at g e) d)) v 0 ≡ through p (edge_at g e) d =
          ap (λ (i : ℕ). get_or (set d (edge_at g e).from (through p (edge_at g e) d)) i 0) same ∙ here in
          subst (λ (y : ℕ). Contains new (entry_of y v)) (sym value) (subst (λ (i : ℕ). Contains new (entry_of (through p (edge_at g e) d) i)) (sym same)
          (Contains-permutation (entry_of x from ∷ waiting) new (entry_of x from) moved (contains_first (entry_of x from) waiting)))
      | no other ↦
          let value = there v other in
          subst (λ (y : ℕ). Contains new (entry_of y v)) (sym value)
          (Contains-permutation (entry_of x from ∷ waiting) new (entry_of (get_or d v 0) v) moved
          (contains_later (entry_of x from) waiting (entry_of (get_or d v 0) v)
          (under.waits v (let same = size in omega arith) still (subst (λ (y : ℕ). y < limit) value near))))
    ]

    closed : (i : ℕ) → i < length g.edges → Lacks excluded i → is_marked settled (edge_at g i).to ≡ true → Lacks todo i →
        get_or (set d (edge_at g e).from (through p (edge_at g e) d)) (edge_at g i).from 0
        ≤ through p (edge_at g i) (set d (edge_at g e).from (through p (edge_at g e) d))
    closed i known there_left done lacks =
        let end = settled_same (edge_at g i).to done in
        elim (ℕ_discrete i e) [
          | yes same ↦ let value = ap (λ (k : ℕ). get_or (set d (edge_at g e).from (through p (edge_at g e) d)) (edge_at g k).from 0) same in
              let price = ap (λ (k : ℕ). price_at p (edge_at g k).price) same in
              let old_end = ap (λ (k : ℕ). get_or d (edge_at g k).to 0) same in
              let is = here in omega arith
          | no other ↦ let old = under.closed i known there_left done (other, lacks) in let less = not_more (edge_at g i).from in omega arith
        ]

-- no number is above the limit at the start
bounded_begun : (t limit n : ℕ) → All (λ x. x ≤ limit) (set (replicate n limit) t 0)
bounded_begun t limit n = All-set (λ x. x ≤ limit) (replicate n limit) t 0 (omega arith) (All-replicate (λ x. x ≤ limit) n limit (omega arith))

-- the target alone waits at the start
pub begun : (g : Area) (p : Point) (excluded : List ℕ) (t limit n m : ℕ) (waiting : List WaitingVertex) → t < n →
    IsPermutation (entry_of 0 t ∷ []) waiting →
    Underway g p excluded t limit 0 [] (set (replicate n limit) t 0) (replicate m false) waiting
begun g p excluded t limit n m waiting within moved = record {
  reached = reached_none g p excluded t limit n within;
  bounded = bounded_begun t limit n;
  before = λ v done. clash (sym done ∙ none_settled m v);
  waits = λ v known unsettled near. elim (ℕ_discrete v t) [
    | yes same ↦
        let value : get_or (set (replicate n limit) t 0) v 0 ≡ 0 = ap (λ (i : ℕ). get_or (set (replicate n limit) t 0) i 0) same ∙ here in
        subst (λ (y : ℕ). Contains waiting (entry_of y v)) (sym value)
        (subst (λ (i : ℕ). Contains waiting (entry_of 0 i)) (sym same)
        (Contains-permutation (entry_of 0 t ∷ []) waiting (entry_of 0 t) moved
        (contains_first (entry_of 0 t) [])))
    | no other ↦
        let size = length-replicate n limit in
        let kept_size = length-set (replicate n limit) t 0 in
        let value : get_or (set (replicate n limit) t 0) v 0 ≡ limit =
        get_or-set_other (replicate n limit) t v 0 0 other ∙ get_or-replicate n v limit 0 (omega arith) in
        absurd (omega (arith, near))
  ];
  entries = All-permutation (MayWait limit 0 (set (replicate n limit) t 0)) (entry_of 0 t ∷ []) waiting moved
      (All-cons (MayWait limit 0 (set (replicate n limit) t 0)) (entry_of 0 t) [] first
      (All-nil (MayWait limit 0 (set (replicate n limit) t 0))));
  edges = All-nil (LeadsToLast g 0 (set (replicate n limit) t 0) (replicate m false));
  closed = λ e known left done lacks. clash (sym done ∙ none_settled m (edge_at g e).to);
}
  where
    t_within : t < length (replicate n limit)
    t_within = let size = length-replicate n limit in omega arith

    here : get_or (set (replicate n limit) t 0) t 0 ≡ 0
    here = get_or-set_same (replicate n limit) t 0 0 t_within

    first : MayWait limit 0 (set (replicate n limit) t 0) (entry_of 0 t)
    first = record {
      known = let same = length-set (replicate n limit) t 0 in let inside = t_within in omega arith;
      near = omega arith;
      later = omega arith;
      not_below = let value = here in omega arith;
    }

-- the front at the start
pub front_begun : (g : Area) (p : Point) (t limit n m : ℕ) → limit ≤ far p → n ≡ length g.vertices →
    m ≡ length g.vertices → AreSearchNumbers g p (set (replicate n limit) t 0) (replicate m false)
front_begun g p t limit n m most count marks = record {
  count = length-set (replicate n limit) t 0 ∙ length-replicate n limit ∙ count;
  marks = length-replicate m false ∙ marks;
  bounded = All-weaker (λ x. x ≤ limit) (λ x. x ≤ far p) (λ x within. omega (arith, most, within)) (set (replicate n limit) t 0) (bounded_begun t limit n);
}

-- what is settled is no longer open
open_step : (settled : List Bool) (v to : ℕ) → v < length settled → is_marked settled v ≡ false →
    cond (not (is_marked settled to)) 1 0 ≡ cond (not (is_marked (set settled v true) to)) 1 0 + cond (eqb to v) 1 0
open_step settled v to within unsettled = elim (ℕ_discrete to v) [
  | yes same ↦
      let counted : Bool → ℕ = λ b. cond b 1 0 in
      let old : is_marked settled to ≡ false = ap (is_marked settled) same ∙ unsettled in
      let new : is_marked (set settled v true) to ≡ true = ap (is_marked (set settled v true)) same ∙ get_or-set_same settled v true false within in
      ap (λ b. counted (not b)) old ∙ sym (ap (λ b. counted (not b) + cond (eqb to v) 1 0) new ∙ ap (λ b. 0 + counted b) (eq-eqb to v same))
  | no other ↦
      let counted : Bool → ℕ = λ b. cond b 1 0 in
      let same : is_marked (set settled v true) to ≡ is_marked settled to = get_or-set_other settled v to true false other in
      let apart = ap counted (ne_eqb to v other) in
      let open_same = ap (λ b. counted (not b)) same in
      omega arith
]

open_less : (g : Area) (settled : List Bool) (v : ℕ) → v < length settled → is_marked settled v ≡ false →
    (xs : List ℕ) → count_by (λ e. not (is_marked settled (edge_at g e).to)) xs
    ≡ count_by (λ e. not (is_marked (set settled v true) (edge_at g e).to)) xs
    + count_by (λ e. eqb (edge_at g e).to v) xs
open_less g settled v within unsettled [] = refl
open_less g settled v within unsettled (e ∷ xs) =
    let rest = open_less g settled v within unsettled xs in
    let step = open_step settled v (edge_at g e).to within unsettled in
    let a = sum_by-cons (λ e. cond (not (is_marked settled (edge_at g e).to)) 1 0) e xs in
    let b = sum_by-cons (λ e. cond (not (is_marked (set settled v true) (edge_at g e).to)) 1 0) e xs in
    let c = sum_by-cons (λ e. cond (eqb (edge_at g e).to v) 1 0) e xs in
    omega arith

-- a vertex that is settled takes the edges into it from those that are open
pub open_settled : (g : Area) (settled : List Bool) (v : ℕ) → v < length settled → is_marked settled v ≡ false →
    open_edges g settled ≡ open_edges g (set settled v true) + length (edges_in g v)
open_settled g settled v within unsettled =
    let less = open_less g settled v within unsettled (numbers_from 0 (length g.edges)) in
    let counted = length-filter (λ e. eqb (edge_at g e).to v) (numbers_from 0 (length g.edges)) in
    omega arith

pub open-le : (g : Area) (settled : List Bool) → open_edges g settled ≤ length g.edges
open-le g settled =
    let most = count_by-le-length (λ e. not (is_marked settled (edge_at g e).to)) (numbers_from 0 (length g.edges)) in
    let count = length-numbers_from 0 (length g.edges) in
    omega arith
