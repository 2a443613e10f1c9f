use Rattle.std.proofs.Common.{◌≡◌, ◌∷◌, [], ◌≤◌, List, All, map, subst, ap, ◌∙◌, sym, refl, IsPermutation, heap_items, heap_len, length, arith}
use Rattle.std.specs.declared.collections.BinaryHeap.{BinaryHeap}
use Rattle.std.proofs.lemmas.List.Sorted.{IsPermutation-map}
use Rattle.spf_ties.specs.declared.heap.WaitingVertex.{WaitingVertex}
use Rattle.spf_ties.proofs.WaitingLemmas.{nearest}
use Rattle.spf_ties.proofs.heap.Heap.pop.Goals.{in-Some, in-None}
use Rattle.spf_ties.proofs.heap.Heap.pop.Goals as goal

-- a heap of length 0 holds nothing
none_held : {X Z : Type 0} (heap : BinaryHeap X Z) → heap_len heap ≡ 0 → heap_items heap ≡ []
none_held heap none = empty (heap_items heap) (sym heap.data.ok.0 ∙ none)
  where
    empty : {X : Type 0} (xs : List X) → length xs ≡ 0 → xs ≡ []
    empty [] h = refl
    empty (x ∷ xs) h = absurd (omega arith)

pub returns-clause-entry : goal.returns-clause-entry
returns-clause-entry c = elim c.match-pop.branch [
  | in-Some w ↦ rw w.result-is
      (subst (λ (old : List WaitingVertex). IsPermutation old (w.in-Some.field-0.0 ∷ map (λ r. r.0) (heap_items c.pop.new.self)))
      (ap (λ q. q.entries) c.self.view_is)
      (IsPermutation-map (λ r. r.0) (heap_items c.self.inside.entries) (w.in-Some.field-0 ∷ heap_items c.pop.new.self) w.in-Some.ensures.permutation))
  | in-None w ↦ rw w.result-is (let none =
      none_held c.pop.new.self (let same = w.in-None.ensures.unchanged.1 in let empty = w.in-None.ensures.none in
      omega arith) in ap (map (λ r. r.0)) none)
]

pub returns-clause-none : goal.returns-clause-none
returns-clause-none c = elim c.match-pop.branch [
  | in-Some w ↦ rw w.result-is
      (subst (λ (old : List WaitingVertex). All (λ other. w.in-Some.field-0.0.distance ≤ other.distance) old) (ap (λ q. q.entries) c.self.view_is)
      (nearest w.in-Some.field-0 (heap_items c.self.inside.entries) (w.in-Some.ensures.heap_order c.self.invariant).1))
  | in-None w ↦ rw w.result-is (let none = none_held c.self.inside.entries w.in-None.ensures.none in
      sym (ap (λ q. q.entries) c.self.view_is) ∙ ap (map (λ r. r.0)) none)
]
