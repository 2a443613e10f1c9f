-- A path keeps being the only cheapest where no edge on it gets dearer and none lies on a rival that gets too cheap.
use Rattle.std.proofs.Common.{◌≡◌, ◌≢◌, ℕ, ◌+◌, ◌-◌, ◌<◌, ◌≤◌, refl, sym, ◌∙◌, ap, subst, List, [], ◌∷◌, map, length, inl, inr, ◌⊎◌, arith}
use Rattle.std.specs.Prelude.{sum_by}
use Rattle.std.proofs.lemmas.Bool.{cases_lt}
use Rattle.std.proofs.lemmas.List.Sums.{sum_by-cons}
use Rattle.cost_base.specs.Lists.{Has, Lacks, NoneTwice}
use Rattle.cost_base.proofs.ListLemmas.{has_lacks, has_or_not, all_has}
use Rattle.area_graph.specs.declared.Point.{Point}
use Rattle.area_graph.specs.Area.{Area, edge_at}
use Rattle.area_graph.specs.Paths.{Ends, IsPathOf}
use Rattle.area_graph.specs.Costs.{IsOnlyCheapest, cost, price_at}
use Rattle.area_graph.proofs.Visits.{joined_known}

-- a list lacks what it doesn't have
pub lacks_unless : (xs : List ℕ) (x : ℕ) → (Has xs x → ⊥) → Lacks xs x
lacks_unless [] x without = tt
lacks_unless (y ∷ ys) x without = (λ same. without (inl same), lacks_unless ys x (λ has. without (inr has)))

-- a list without one of its elements
record Without (f : ℕ → ℕ) (xs : List ℕ) (x : ℕ) : Type 0 where
  rest : List ℕ
  sum : sum_by f xs ≡ f x + sum_by f rest
  others : (y : ℕ) → y ≢ x → Has xs y → Has rest y

without : (f : ℕ → ℕ) (xs : List ℕ) (x : ℕ) → Has xs x → Without f xs x
without f [] x has = absurd has
without f (y ∷ ys) x has = elim has [
  | inl same ↦ record {
    rest = ys;
    sum = sum_by-cons f y ys ∙ ap (λ (z : ℕ). f z + sum_by f ys) (sym same);
    others = λ z other is. elim is [ inl at ↦ absurd (other (at ∙ sym same)) | inr later ↦ later ];
  }
  | inr later ↦
      let less = without f ys x later in
      let first = sum_by-cons f y ys in
      let again = sum_by-cons f y less.rest in
      record {
        rest = y ∷ less.rest;
        sum = let tail = less.sum in omega (arith, first, again, tail);
        others = λ z other is. elim is [ inl at ↦ inl at | inr behind ↦ inr (less.others z other behind) ];
      }
]

-- a sum over elements, none twice, of which those that count are in another list, is at most the sum over that
sum_within : (f : ℕ → ℕ) (xs path : List ℕ) → NoneTwice xs → ((x : ℕ) → Has xs x → (f x ≡ 0) ⊎ Has path x) →
    sum_by f xs ≤ sum_by f path
sum_within f [] path once each = omega arith
sum_within f (x ∷ xs) path once each = elim (each x (inl refl)) [
  | inl nothing ↦
      let first = sum_by-cons f x xs in
      let rest = sum_within f xs path once.1 (λ y has. each y (inr has)) in
      omega (arith, first, rest, nothing)
  | inr has ↦
      let less = without f path x has in
      let rest = sum_within f xs less.rest once.1 (λ y in'. elim (each y (inr in')) [
        | inl nothing ↦ inl nothing
        | inr there ↦ inr (less.others y (λ same. has_lacks xs x (subst (Has xs) same in') once.0) there)
      ]) in
      let first = sum_by-cons f x xs in
      let whole = less.sum in
      omega (arith, first, rest, whole)
]

-- what a map lacks at an element, the list lacks
lacks_mapped : (f : ℕ → ℕ) (xs : List ℕ) (x : ℕ) → Lacks (map f xs) (f x) → Lacks xs x
lacks_mapped f [] x lacks = tt
lacks_mapped f (y ∷ ys) x lacks = (λ same. lacks.0 (ap f same), lacks_mapped f ys x lacks.1)

once_mapped : (f : ℕ → ℕ) (xs : List ℕ) → NoneTwice (map f xs) → NoneTwice xs
once_mapped f [] once = tt
once_mapped f (x ∷ xs) once = (lacks_mapped f xs x once.0, once_mapped f xs once.1)

-- no edge is twice on a simple path
edges_once : (g : Area) (ends : Ends) (es : List ℕ) → IsPathOf g ends es → NoneTwice es
edges_once g ends es path = once_mapped (λ e. (edge_at g e).to) es path.simple.none_twice.1

-- what an edge costs
abbrev pub paid : Area → Point → ℕ → ℕ
paid g p e = price_at p (edge_at g e).price

-- how much an edge costs less at another point
abbrev fallen : Area → Point → Point → ℕ → ℕ
fallen g p q e = paid g p e - paid g q e

-- a walk pays at most what its edges' prices fall more
falls_by : (g : Area) (p q : Point) (es : List ℕ) → cost g p es ≤ cost g q es + sum_by (fallen g p q) es
falls_by g p q [] = omega arith
falls_by g p q (e ∷ es) =
    let old = sum_by-cons (paid g p) e es in
    let new = sum_by-cons (paid g q) e es in
    let fall = sum_by-cons (fallen g p q) e es in
    let rest = falls_by g p q es in
    omega (arith, old, new, fall, rest)

-- a path on which no edge gets dearer pays so much less
falls_all : (g : Area) (p q : Point) (es : List ℕ) → ((e : ℕ) → Has es e → paid g q e ≤ paid g p e) →
    cost g p es ≡ cost g q es + sum_by (fallen g p q) es
falls_all g p q [] cheaper = omega arith
falls_all g p q (e ∷ es) cheaper =
    let old = sum_by-cons (paid g p) e es in
    let new = sum_by-cons (paid g q) e es in
    let fall = sum_by-cons (fallen g p q) e es in
    let rest = falls_all g p q es (λ x has. cheaper x (inr has)) in
    let here = cheaper e (inl refl) in
    omega (arith, old, new, fall, rest, here)

-- a walk whose edges' prices don't fall gets no cheaper
pub pays_more : (g : Area) (p q : Point) (es : List ℕ) → ((e : ℕ) → paid g p e ≤ paid g q e) → cost g p es ≤ cost g q es
pays_more g p q [] more = omega arith
pays_more g p q (e ∷ es) more =
    let old = sum_by-cons (paid g p) e es in
    let new = sum_by-cons (paid g q) e es in
    let here = more e in
    let rest = pays_more g p q es more in
    omega (arith, old, new, here, rest)

-- some edge of a walk that isn't on a path gets cheaper, or none does
falls_or_not : (g : Area) (p q : Point) (es walk : List ℕ) →
    ((e : ℕ) → Has walk e → (Has es e → ⊥) → paid g p e ≤ paid g q e) ⊎ ((e : ℕ) × Has walk e × (Has es e → ⊥) × (paid g q e < paid g p e))
falls_or_not g p q es [] = inl (λ e has. absurd has)
falls_or_not g p q es (x ∷ xs) = elim (falls_or_not g p q es xs) [
  | inr found ↦ inr (found.0, inr found.1, found.2, found.3)
  | inl none ↦ elim (has_or_not es x) [
    | inl there ↦ inl (λ e has away. elim has [ inl same ↦ absurd (away (subst (Has es) (sym same) there)) | inr later ↦ none e later away ])
    | inr away ↦ elim (cases_lt (paid g q x) (paid g p x)) [
      | inl less ↦ inr (x, inl refl, away, less)
      | inr not_less ↦ inl (λ e has off. elim has [
        | inl same ↦ subst (λ (y : ℕ). paid g p y ≤ paid g q y) (sym same) not_less
        | inr later ↦ none e later off
      ])
    ]
  ]
]

-- The only cheapest path stays so where no edge on it gets dearer, and each other edge gets no cheaper or lies on
-- dearer paths alone.
pub only_unless : (g : Area) (p q : Point) (ends : Ends) (es : List ℕ) → IsOnlyCheapest g p ends es →
    ((e : ℕ) → Has es e → paid g q e ≤ paid g p e) →
    ((e : ℕ) → e < length g.edges → (Has es e → ⊥) →
    (paid g p e ≤ paid g q e) ⊎ ((other : List ℕ) → IsPathOf g ends other → Has other e → cost g q es < cost g q other)) → IsOnlyCheapest g q ends es
only_unless g p q ends es only on off = record {
  path = only.path;
  others = λ other path differs.
      let known = joined_known g ends.start other ends.end path.simple.joins in
      elim (falls_or_not g p q es other) [
        | inr found ↦ elim (off found.0 (all_has (λ i. i < length g.edges) other found.0 known found.1) found.2) [
          | inl dearer ↦ let cheaper = found.3 in absurd (omega (arith, dearer, cheaper))
          | inr over ↦ over other path found.1
        ]
        | inl none ↦
            let before = only.others other path differs in
            let mine = falls_all g p q es on in
            let theirs = falls_by g p q other in
            let less = sum_within (fallen g p q) other es (edges_once g ends other path) (λ e has. elim (has_or_not es e) [
              | inl there ↦ inr there
              | inr away ↦ let dearer = none e has away in inl (omega (arith, dearer))
            ]) in
            omega (arith, before, mine, theirs, less)
      ];
}

-- so it does where no other edge gets cheaper
pub only_kept : (g : Area) (p q : Point) (ends : Ends) (es : List ℕ) → IsOnlyCheapest g p ends es →
    ((e : ℕ) → Has es e → paid g q e ≤ paid g p e) →
    ((e : ℕ) → e < length g.edges → (Has es e → ⊥) → paid g p e ≤ paid g q e) → IsOnlyCheapest g q ends es
only_kept g p q ends es only on off = only_unless g p q ends es only on (λ e known away. inl (off e known away))
