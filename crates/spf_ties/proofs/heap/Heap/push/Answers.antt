use Rattle.std.proofs.Common.{rules, ◌∷◌, ◌<◌, List, map, length, subst, ap, IsPermutation, heap_items, heap_len, arith}
use Rattle.std.specs.BinaryHeap.{heap_capacity}
use Rattle.std.specs.Prelude.{IsOk, OnOk, Result, Ok, Err}
use Rattle.std.proofs.lemmas.List.{length-map}
use Rattle.std.proofs.lemmas.List.Sorted.{IsPermutation-map}
use Rattle.spf_ties.specs.declared.heap.WaitingVertex.{WaitingVertex}
use Rattle.spf_ties.proofs.heap.Heap.push.Goals as goal

-- what holds where a call succeeds, and it does
succeeded : {T E : Type 0} (r : Result T E) (P : Type 0) → IsOk r → OnOk r P → P
succeeded (Ok x) P ok on = on
succeeded (Err e) P ok on = absurd (search rules)

pub returns-clause-entries : goal.returns-clause-entries
returns-clause-entries c =
    let free : length c.args.self.now.entries < c.args.self.now.places = c.requires in
    let short : heap_len c.self.inside.entries < heap_capacity c.self.inside.entries = let held =
    length-map (heap_items c.self.inside.entries) (λ r. r.0) in let view =
    ap (λ q. length q.entries) c.self.view_is in let places = ap (λ q. q.places) c.self.view_is in let len =
    c.self.inside.entries.data.ok.0 in omega arith in
    let done = succeeded c.push.result _ (c.push.ensures.succeeds short) c.push.ensures.permutation in
    let moved = IsPermutation-map (λ r. r.0) _ _ done in
    subst (λ (old : List WaitingVertex). IsPermutation (c.args.entry ∷ old) (map (λ r. r.0) (heap_items c.push.new.self))) (ap (λ w. w.entries) c.self.view_is)
    moved
