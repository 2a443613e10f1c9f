use Rattle.std.proofs.Common.{rules, ◌≡◌, ◌<◌, ◌∷◌, [], ℕ, ap, sym, subst, arith, IsPermutation, List, Bool, length, set, replicate, false}
use Rattle.std.proofs.lemmas.List.Elements.{All-head}
use Rattle.std.proofs.lemmas.List.Sorted.{All-permutation, length_permutation}
use Rattle.spf_ties.specs.declared.heap.WaitingVertex.{WaitingVertex}
use Rattle.spf_ties.specs.Searches.{AreSearchNumbers, MayWait, Underway}
use Rattle.spf_ties.proofs.SearchLemmas.{begun, entry_of, front_begun, open-le}
use Rattle.spf_ties.proofs.search.find.Goals as goal

pub loop-entry-init : goal.loop-entry-init
loop-entry-init c =
    let limit = c.args.limit in
    let numbers : c.fill.new.self.items ≡ replicate (length c.args.front.now.numbers.items) limit = search rules in
    let marks : c.fill-2.new.self.items ≡ replicate (length c.args.front.now.settled.items) false = search rules in
    let g = c.args.subgraph.now.graph.now in
    let p = c.args.subgraph.now.point.now in
    let t = c.args.target in
    let n = length c.args.front.now.numbers.items in
    let m = length c.args.front.now.settled.items in
    let alone : IsPermutation (entry_of 0 t ∷ []) c.push.new.self.entries =
    subst (λ (xs : List WaitingVertex). IsPermutation (entry_of 0 t ∷ xs) c.push.new.self.entries) (ap (λ w. w.entries) c.clear.ensures) c.push.ensures.entries
    in
    let within : t < n = let target = c.requires.target in let count = c.requires.front.count in omega arith in
    record {
      front = subst (λ (d : List ℕ). AreSearchNumbers g p (set d t 0) c.fill-2.new.self.items) (sym numbers)
          (subst (λ (settled : List Bool). AreSearchNumbers g p (set (replicate n limit) t 0) settled) (sym marks)
          (front_begun g p t limit n m c.requires.limit c.requires.front.count c.requires.front.marks));
      places = let places = ap (λ w. w.places) c.clear.ensures in let before = c.requires.front.places in let more = c.push.ensures.places in omega arith;
      room = let count = length_permutation (entry_of 0 t ∷ []) c.push.new.self.entries alone in let most =
          open-le c.args.subgraph.now.graph.now c.fill-2.new.self.items in omega arith;
      underway = (
        0,
        subst (λ (d : List ℕ). Underway g p c.args.subgraph.now.exclusion.now t limit 0 [] (set d t 0) c.fill-2.new.self.items c.push.new.self.entries)
            (sym numbers)
            (subst (λ (settled : List Bool).
            Underway g p c.args.subgraph.now.exclusion.now t limit 0 [] (set (replicate n limit) t 0) settled
            c.push.new.self.entries) (sym marks)
            (begun g p c.args.subgraph.now.exclusion.now t limit n m c.push.new.self.entries within alone)),
      );
    }

pub take_in-requires-clause-vertex : goal.take_in-requires-clause-vertex
take_in-requires-clause-vertex c =
    let under = c.loop-entry.invariant.underway.1 in
    let may = All-head (MayWait c.args.limit c.loop-entry.invariant.underway.0 c.loop-entry.front.numbers.items) c.in-Some.entry c.pop.new.self.entries
    (All-permutation (MayWait c.args.limit c.loop-entry.invariant.underway.0 c.loop-entry.front.numbers.items)
    c.loop-entry.front.waiting.entries (c.in-Some.entry ∷ c.pop.new.self.entries) c.in-Some.ensures.entry
    under.entries) in
    let known = may.known in
    let count = c.loop-entry.invariant.front.count in
    omega arith

pub take_in-requires-clause-room : goal.take_in-requires-clause-room
take_in-requires-clause-room c =
    let count = length_permutation c.loop-entry.front.waiting.entries (c.in-Some.entry ∷ c.pop.new.self.entries) c.in-Some.ensures.entry in
    let places = c.loop-entry.invariant.places in
    let room = c.loop-entry.invariant.room in
    let same = c.in-Some.ensures.places in
    omega arith

pub loop-entry-smaller : goal.loop-entry-smaller
loop-entry-smaller c =
    let count = length_permutation c.loop-entry.front.waiting.entries (c.in-Some.entry ∷ c.pop.new.self.entries) c.in-Some.ensures.entry in
    let fewer = c.take_in.ensures.waiting.fewer in
    omega arith

pub loop-entry-preserved : goal.loop-entry-preserved
loop-entry-preserved c =
    let count = length_permutation c.loop-entry.front.waiting.entries (c.in-Some.entry ∷ c.pop.new.self.entries) c.in-Some.ensures.entry in
    record {
      front = c.take_in.ensures.front;
      places = let before = c.loop-entry.invariant.places in let same = c.in-Some.ensures.places in let after = c.take_in.ensures.waiting.places in omega arith;
      room = let before = c.loop-entry.invariant.room in let fewer = c.take_in.ensures.waiting.fewer in omega arith;
      underway = c.take_in.ensures.underway c.args.target c.args.limit c.loop-entry.invariant.underway.0
          c.loop-entry.front.waiting.entries c.loop-entry.invariant.underway.1 c.in-Some.ensures.entry
          c.in-Some.ensures.none;
    }
