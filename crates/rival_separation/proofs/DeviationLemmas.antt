-- The best of the deviations that were seen.
use Rattle.std.proofs.Common.{◌≡◌, ◌≢◌, ℕ, ◌+◌, ◌<◌, ◌≤◌, refl, sym, ◌∙◌, ap, subst, List, [], ◌∷◌, All, length, get_or, drop, add-one, Option, Some, None, inl, inr, ◌⊎◌, arith, MatchOption}
use Rattle.std.proofs.Math.Seq.{drop-cons}
use Rattle.std.proofs.Math.ListN.{drop_of_length-le}
use native.Mathlib.Decide.{ℕ_discrete}
use Rattle.std.proofs.lemmas.Option.{same_Some}
use Rattle.cost_base.specs.Lists.{Lacks}
use Rattle.cost_base.proofs.ListLemmas.{all_lacks}
use Rattle.area_graph.specs.declared.Point.{Point}
use Rattle.area_graph.specs.Area.{Area, edge_at, edges_out}
use Rattle.area_graph.proofs.ListedEdges.{all_out, out_all}
use Rattle.spf_ties.specs.Distances.{Findings}
use Rattle.rival_separation.specs.declared.deviation.Deviation.{Deviation}
use Rattle.rival_separation.specs.Deviations.{IsBestDeviation, IsBetter, IsBetterBy, DeviatesFromPath}

-- what was seen before the edges `todo` at a place
abbrev pub SeenBut : ℕ → List ℕ → ℕ → ℕ → Type 0
SeenBut place todo earlier e = (earlier < place) ⊎ ((earlier ≡ place) × Lacks todo e)

-- a deviation by an edge at a place has one cost
abbrev pub DeviatesOnce : (ℕ → ℕ → ℕ → Type 0) → Type 0
DeviatesOnce Deviates = (k e a b : ℕ) → Deviates k e a → Deviates k e b → a ≡ b

-- what is best of more is best of fewer
pub best_of_fewer : (Deviates : ℕ → ℕ → ℕ → Type 0) (More Fewer : ℕ → ℕ → Type 0) (best : Option Deviation) →
    IsBestDeviation Deviates More best → ((k e total : ℕ) → Fewer k e → Deviates k e total → More k e) → IsBestDeviation Deviates Fewer best
best_of_fewer Deviates More Fewer None is more = λ k e total seen deviation. is k e total (more k e total seen deviation) deviation
best_of_fewer Deviates More Fewer (Some best) is more = (is.0, λ k e total seen deviation. is.1 k e total (more k e total seen deviation) deviation)

-- the place and the edge of a deviation under other names
moved : (Deviates : ℕ → ℕ → ℕ → Type 0) (place n k e total : ℕ) → k ≡ place → e ≡ n → Deviates k e total → Deviates place n total
moved Deviates place n k e total here same deviation = subst (λ (i : ℕ). Deviates i n total) here (subst (λ (i : ℕ). Deviates k i total) same deviation)

-- one edge less is to be looked at, and there is no deviation by it
best_without : (Deviates : ℕ → ℕ → ℕ → Type 0) (place n : ℕ) (todo : List ℕ) (best : Option Deviation) →
    IsBestDeviation Deviates (SeenBut place (n ∷ todo)) best → ((total : ℕ) → Deviates place n total → ⊥) →
    IsBestDeviation Deviates (SeenBut place todo) best
best_without Deviates place n todo best is none =
    best_of_fewer Deviates (SeenBut place (n ∷ todo)) (SeenBut place todo) best is (λ k e total seen deviation. elim seen [
      | inl earlier ↦ inl earlier
      | inr here ↦ elim (ℕ_discrete e n) [
        | yes same ↦ absurd (none total (moved Deviates place n k e total here.0 same deviation))
        | no other ↦ inr (here.0, (other, here.1))
      ]
    ])

-- what the deviation by an edge at a place costs, or None where there is none
abbrev pub IsDeviationIfAny : (ℕ → ℕ → ℕ → Type 0) → ℕ → ℕ → Option ℕ → Type 0
IsDeviationIfAny Deviates place n cost = MatchOption cost ((total : ℕ) → Deviates place n total → ⊥) (λ total. Deviates place n total)

-- one edge less is to be looked at, and there is a deviation by it
best_with : (Deviates : ℕ → ℕ → ℕ → Type 0) → DeviatesOnce Deviates →
    (place n cost : ℕ) (todo : List ℕ) (best : Option Deviation) (result : Deviation) →
    IsBestDeviation Deviates (SeenBut place (n ∷ todo)) best → Deviates place n cost →
    IsBetter best (record { place = place; edge = n; cost = cost }) result →
    IsBestDeviation Deviates (SeenBut place todo) (Some result)
best_with Deviates once place n cost todo None result is deviation better =
    subst (λ (d : Deviation). IsBestDeviation Deviates (SeenBut place todo) (Some d)) (sym better) (
      deviation,
      λ k e total seen other. elim seen [
        | inl earlier ↦ absurd (is k e total (inl earlier) other)
        | inr here ↦ elim (ℕ_discrete e n) [
          | yes same ↦ let equal = once place n cost total deviation (moved Deviates place n k e total here.0 same other) in omega arith
          | no apart ↦ absurd (is k e total (inr (here.0, (apart, here.1))) other)
        ]
      ],
    )
best_with Deviates once place n cost todo (Some first) result is deviation better = elim better [
  | inl less ↦
      subst (λ (d : Deviation). IsBestDeviation Deviates (SeenBut place todo) (Some d)) (sym less.0) (
        deviation,
        λ k e total seen other. (let below = less.1 in elim seen [
          | inl earlier ↦ let before = is.1 k e total (inl earlier) other in omega arith
          | inr here ↦ elim (ℕ_discrete e n) [
            | yes same ↦ let equal = once place n cost total deviation (moved Deviates place n k e total here.0 same other) in omega arith
            | no apart ↦ let before = is.1 k e total (inr (here.0, (apart, here.1))) other in omega arith
          ]
        ]),
      )
  | inr more ↦
      subst (λ (d : Deviation). IsBestDeviation Deviates (SeenBut place todo) (Some d)) (sym more.0) (
        is.0,
        λ k e total seen other. (let above = more.1 in elim seen [
          | inl earlier ↦ is.1 k e total (inl earlier) other
          | inr here ↦ elim (ℕ_discrete e n) [
            | yes same ↦ let equal = once place n cost total deviation (moved Deviates place n k e total here.0 same other) in omega arith
            | no apart ↦ is.1 k e total (inr (here.0, (apart, here.1))) other
          ]
        ]),
      )
]

-- one edge less is to be looked at, whether there is a deviation by it or not
best_by : (Deviates : ℕ → ℕ → ℕ → Type 0) → DeviatesOnce Deviates →
    (place n : ℕ) (todo : List ℕ) (best : Option Deviation) (cost : Option ℕ) (result : Option Deviation) →
    IsBestDeviation Deviates (SeenBut place (n ∷ todo)) best → IsDeviationIfAny Deviates place n cost → IsBetterBy best place n cost result →
    IsBestDeviation Deviates (SeenBut place todo) result
best_by Deviates once place n todo best None result is none same =
    subst (λ (d : Option Deviation). IsBestDeviation Deviates (SeenBut place todo) d) (sym same)
    (best_without Deviates place n todo best is none)
best_by Deviates once place n todo best (Some cost) None is deviation better = absurd better
best_by Deviates once place n todo best (Some cost) (Some result) is deviation better = best_with Deviates once place n cost todo best result is deviation
    better

-- the next of the edges at a place was looked at; they are read from another list that is the same
pub best_turn : (Deviates : ℕ → ℕ → ℕ → Type 0) → DeviatesOnce Deviates →
    (place i : ℕ) (es items : List ℕ) (best : Option Deviation) (cost : Option ℕ) (result : Option Deviation) →
    items ≡ es → i < length items → IsBestDeviation Deviates (SeenBut place (drop i es)) best →
    IsDeviationIfAny Deviates place (get_or items i 0) cost → IsBetterBy best place (get_or items i 0) cost result →
    IsBestDeviation Deviates (SeenBut place (drop (i + 1) es)) result
best_turn Deviates once place i es items best cost result same here is deviation better =
    let within : i < length es = subst (λ (xs : List ℕ). i < length xs) same here in
    let split : drop i es ≡ get_or items i 0 ∷ drop (i + 1) es =
    drop-cons es i 0 within ∙ ap (λ (k : ℕ). get_or es i 0 ∷ drop k es) (sym (add-one i)) ∙ ap (λ (xs : List ℕ). get_or xs i 0 ∷ drop (i + 1) es) (sym same) in
    best_by Deviates once place (get_or items i 0) (drop (i + 1) es) best cost result
    (subst (λ (xs : List ℕ). IsBestDeviation Deviates (SeenBut place xs) best) split is) deviation better

-- at the start of a place each of its edges is to be looked at
pub best_begins : (Deviates : ℕ → ℕ → ℕ → Type 0) (place : ℕ) (edges : List ℕ) (best : Option Deviation) →
    ((e total : ℕ) → Lacks edges e → Deviates place e total → ⊥) → IsBestDeviation Deviates (λ earlier e. earlier < place) best →
    IsBestDeviation Deviates (SeenBut place edges) best
best_begins Deviates place edges best all is =
    best_of_fewer Deviates (λ earlier e. earlier < place) (SeenBut place edges) best is (λ k e total seen deviation. elim seen [
      | inl earlier ↦ earlier
      | inr here ↦ absurd (all e total here.1 (moved Deviates place e k e total here.0 refl deviation))
    ])

-- an edge out of a vertex is among those that are looked at
pub out_listed : (g : Area) (v e : ℕ) → e < length g.edges → (edge_at g e).from ≡ v → Lacks (edges_out g v) e → ⊥
out_listed g v e known from lacks = out_all (λ y. e ≢ y) g v (all_lacks (edges_out g v) e lacks) e known from refl

-- behind its last edge the place was seen
pub best_past : (Deviates : ℕ → ℕ → ℕ → Type 0) (place i : ℕ) (es items : List ℕ) (best : Option Deviation) → items ≡ es →
    length items ≤ i → IsBestDeviation Deviates (SeenBut place (drop i es)) best →
    IsBestDeviation Deviates (λ earlier e. earlier < place + 1) best
best_past Deviates place i es items best same past is =
    best_of_fewer Deviates (SeenBut place []) (λ earlier e. earlier < place + 1) best
    (subst (λ (xs : List ℕ). IsBestDeviation Deviates (SeenBut place xs) best) (drop_of_length-le es (subst (λ (xs : List ℕ). length xs ≤ i) same past)) is)
    (λ k e total seen deviation. elim (ℕ_discrete k place) [
      | yes same ↦ inr (same, tt)
      | no other ↦ inl (omega arith)
    ])

-- each item of the edges out of a vertex is an edge that leaves it
pub out_edge : (g : Area) (v i : ℕ) (items : List ℕ) → items ≡ edges_out g v → i < length items →
    (get_or items i 0 < length g.edges) × ((edge_at g (get_or items i 0)).from ≡ v)
out_edge g v i items same here = (
  subst (λ (es : List ℕ). All (λ e. e < length g.edges) es) (sym same) (all_out (λ e. e < length g.edges) g v (λ e known from. known)) i 0 here,
  subst (λ (es : List ℕ). All (λ e. (edge_at g e).from ≡ v) es) (sym same) (all_out (λ e. (edge_at g e).from ≡ v) g v (λ e known from. from)) i 0 here,
)

-- a deviation from a path by an edge at a place has one cost
pub deviates_once : (g : Area) (p : Point) (excluded : List ℕ) (room : Findings) (path : List ℕ) → DeviatesOnce (DeviatesFromPath g p excluded room path)
deviates_once g p excluded room path k e a b one two =
    let rest = same_Some one.onward.rest two.onward.rest (sym one.onward.distance ∙ two.onward.distance) in
    let first = one.onward.sums in
    let second = two.onward.sums in
    let one_sums = one.sums in
    let two_sums = two.sums in
    omega arith
