use Rattle.std.proofs.Common.{rules, ◌≡◌, ◌<◌, ◌+◌, ◌∷◌, ◌∙◌, ℕ, ap, sym, subst, arith, IsPermutation, length, get_or, set, true, false}
use Rattle.std.proofs.lemmas.List.{get_or_default}
use Rattle.std.proofs.lemmas.List.Sorted.{length_permutation}
use Rattle.cost_base.specs.Lists.{Lacks}
use Rattle.area_graph.specs.declared.Edge.{Edge}
use Rattle.area_graph.specs.Area.{edge_at}
use Rattle.area_graph.specs.Costs.{price_at}
use Rattle.area_graph.specs.Distances.{through}
use Rattle.spf_ties.specs.Searches.{Underway}
use Rattle.spf_ties.proofs.SearchLemmas.{entry_of, kept, lowered}
use Rattle.spf_ties.proofs.search.look.Goals.{After-index-2}
use Rattle.spf_ties.proofs.search.look.Goals as goal

pub returns-then-not-leaves-clause-underway : goal.returns-then-not-leaves-clause-underway
returns-then-not-leaves-clause-underway c = λ t limit least todo under.
    kept c.args.subgraph.now.graph.now c.args.subgraph.now.point.now c.args.subgraph.now.exclusion.now t limit least c.args.number todo
    c.args.front.now.numbers.items c.args.front.now.settled.items c.args.front.now.waiting.entries under
    (λ left. let kept_edge : c.leaves.result ≡ true = c.leaves.ensures.1 left in let excluded : c.leaves.result ≡ false = search rules in absurd (cc))

pub returns-then-distance-index-clause-waiting : goal.returns-then-distance-index-clause-waiting
returns-then-distance-index-clause-waiting c =
    let count = length_permutation _ _ c.push.ensures.entries in
    record { places = c.push.ensures.places; one = omega arith }

-- the numbers that were read are those of the edge's ends: the distance is that through the edge
distance_through : (c : After-index-2) → c.narrow_price.result + c.index.result.now
    ≡ through c.args.subgraph.now.point.now (edge_at c.args.subgraph.now.graph.now c.args.number) c.args.front.now.numbers.items
distance_through c =
    let g = c.args.subgraph.now.graph.now in
    let p = c.args.subgraph.now.point.now in
    let d = c.args.front.now.numbers.items in
    let to : get_or d c.edge_of-edge.result.to 0 ≡ get_or d (edge_at g c.args.number).to 0 =
    ap (λ (edge : Edge). get_or d edge.to 0) c.edge_of-edge.ensures in
    let price : c.narrow_price.result ≡ price_at p (edge_at g c.args.number).price = c.narrow_price.ensures
    ∙ ap (λ (edge : Edge). price_at p edge.price) c.edge_of-edge.ensures in
    let to_within : c.edge_of-edge.result.to < length d = search rules in
    let number : c.index.result.now ≡ get_or d c.edge_of-edge.result.to 0 = c.index.ensures
    ∙ get_or_default d c.edge_of-edge.result.to c.index.result.now 0 to_within in
    omega arith

number_before : (c : After-index-2) →
    c.index-2.result.now ≡ get_or c.args.front.now.numbers.items (edge_at c.args.subgraph.now.graph.now c.args.number).from 0
number_before c =
    let d = c.args.front.now.numbers.items in
    let within : c.edge_of-edge.result.from < length d = search rules in
    c.index-2.ensures ∙ get_or_default d c.edge_of-edge.result.from c.index-2.result.now 0 within
    ∙ ap (λ (edge : Edge). get_or d edge.from 0) c.edge_of-edge.ensures

pub returns-then-distance-index-clause-underway : goal.returns-then-distance-index-clause-underway
returns-then-distance-index-clause-underway c = λ t limit least todo under.
    let g = c.args.subgraph.now.graph.now in
    let p = c.args.subgraph.now.point.now in
    let e = c.args.number in
    let d = c.args.front.now.numbers.items in
    let read = (goal.at.returns-then-distance-index-clause-underway c).After-index-2 in
    let from : c.edge_of-edge.result.from ≡ (edge_at g e).from = ap (λ (edge : Edge). edge.from) c.edge_of-edge.ensures in
    let x = distance_through read in
    let left : Lacks c.args.subgraph.now.exclusion.now e = search rules in
    let old = number_before read in
    let less : through p (edge_at g e) d < get_or d (edge_at g e).from 0 = omega (arith, c.if-distance-index.true) in
    let moved : IsPermutation (entry_of (through p (edge_at g e) d) (edge_at g e).from ∷ c.args.front.now.waiting.entries) c.push.new.self.entries =
    subst (λ (i : ℕ). IsPermutation (entry_of (through p (edge_at g e) d) i ∷ c.args.front.now.waiting.entries) c.push.new.self.entries) from
    (subst (λ (y : ℕ). IsPermutation (entry_of y c.edge_of-edge.result.from ∷ c.args.front.now.waiting.entries)
    c.push.new.self.entries) x c.push.ensures.entries) in
    subst (λ (i : ℕ). Underway g p c.args.subgraph.now.exclusion.now t limit least todo
    (set d i (c.narrow_price.result + c.index.result.now)) c.args.front.now.settled.items
    c.push.new.self.entries) (sym from)
    (subst (λ (y : ℕ). Underway g p c.args.subgraph.now.exclusion.now t limit least todo (set d (edge_at g e).from y)
    c.args.front.now.settled.items c.push.new.self.entries) (sym x)
    (lowered g p c.args.subgraph.now.exclusion.now t limit least e todo d c.args.front.now.settled.items
    c.args.front.now.waiting.entries c.push.new.self.entries c.keeps_conditions.ensures.fits c.requires.front
    under left less moved))

pub returns-else-distance-index-clause-underway : goal.returns-else-distance-index-clause-underway
returns-else-distance-index-clause-underway c = λ t limit least todo under.
    let read = (goal.at.returns-else-distance-index-clause-underway c).After-index-2 in
    let new = distance_through read in
    let old = number_before read in
    kept c.args.subgraph.now.graph.now c.args.subgraph.now.point.now c.args.subgraph.now.exclusion.now t limit least c.args.number todo
    c.args.front.now.numbers.items
    c.args.front.now.settled.items c.args.front.now.waiting.entries
    under (λ left. omega (arith, c.if-distance-index.false))
