use Rattle.std.proofs.Common.{◌≡◌, ◌≤◌, ◌<◌, ◌+◌, ◌∷◌, ◌∙◌, ℕ, All, ap, sym, subst, arith, add-one, List, Bool, length, get_or, drop}
use Rattle.std.proofs.Math.Seq.{drop-cons}
use Rattle.std.proofs.Math.ListN.{drop_of_length-le}
use Rattle.area_graph.specs.Area.{edges_in}
use Rattle.spf_ties.specs.Searches.{Underway, open_edges}
use Rattle.spf_ties.proofs.SearchLemmas.{in_known, open_settled}
use Rattle.spf_ties.proofs.search.settle.Goals as goal

pub look-requires-clause-known : goal.look-requires-clause-known
look-requires-clause-known c =
    subst (λ (es : List ℕ). All (λ e. e < length c.args.subgraph.now.graph.now.edges) es) (sym c.edges_in-number-items.ensures)
    (in_known c.args.subgraph.now.graph.now c.args.vertex) c.loop-number.number-index 0 c.loop-number-test.true

pub look-requires-clause-room : goal.look-requires-clause-room
look-requires-clause-room c =
    let within : c.args.vertex < length c.args.front.now.settled.items = let known = c.requires.vertex in let marks = c.requires.front.marks in omega arith in
    let taken = open_settled c.args.subgraph.now.graph.now c.args.front.now.settled.items c.args.vertex within c.requires.waited in
    let count = ap (λ (es : List ℕ). length es) c.edges_in-number-items.ensures in
    omega arith

pub loop-number-preserved : goal.loop-number-preserved
loop-number-preserved c =
    let g = c.args.subgraph.now.graph.now in
    let es = edges_in g c.args.vertex in
    let i = c.loop-number.number-index in
    let here : i < length es = subst (λ (xs : List ℕ). i < length xs) c.edges_in-number-items.ensures c.loop-number-test.true in
    let split : drop i es ≡ get_or c.edges_in-number-items.result.now i 0 ∷ drop (i + 1) es =
    drop-cons es i 0 here ∙ ap (λ (n : ℕ). get_or es i 0 ∷ drop n es) (sym (add-one i))
    ∙ ap (λ (xs : List ℕ). get_or xs i 0 ∷ drop (i + 1) es) (sym c.edges_in-number-items.ensures) in
    record {
      front = c.look.ensures.front;
      settled = c.look.ensures.settled ∙ c.loop-number.invariant.settled;
      places = let before = c.loop-number.invariant.places in let after = c.look.ensures.waiting.places in omega arith;
      count = let before = c.loop-number.invariant.count in let after = c.look.ensures.waiting.one in omega arith;
      underway = λ t limit least under. c.look.ensures.underway t limit least (drop (i + 1) es)
          (subst (λ (xs : List ℕ). Underway g c.args.subgraph.now.point.now c.args.subgraph.now.exclusion.now t limit least xs
          c.loop-number.front.numbers.items c.loop-number.front.settled.items
          c.loop-number.front.waiting.entries) split
          (c.loop-number.invariant.underway t limit least under));
    }

pub returns-clause-waiting : goal.returns-clause-waiting
returns-clause-waiting c =
    let within : c.args.vertex < length c.args.front.now.settled.items = let known = c.requires.vertex in let marks = c.requires.front.marks in omega arith in
    let taken = open_settled c.args.subgraph.now.graph.now c.args.front.now.settled.items c.args.vertex within c.requires.waited in
    let same = ap (λ (xs : List Bool). open_edges c.args.subgraph.now.graph.now xs) c.loop-number.invariant.settled in
    let count = ap (λ (es : List ℕ). length es) c.edges_in-number-items.ensures in
    let most = c.loop-number.auto.number-index-end in
    let held = c.loop-number.invariant.count in
    record { places = c.loop-number.invariant.places; fewer = omega arith }

pub returns-clause-underway : goal.returns-clause-underway
returns-clause-underway c = λ t limit least under.
    let es = edges_in c.args.subgraph.now.graph.now c.args.vertex in
    let past : length es ≤ c.loop-number.number-index =
    subst (λ (xs : List ℕ). length xs ≤ c.loop-number.number-index) c.edges_in-number-items.ensures
    c.loop-number-test.false in
    subst (λ (xs : List ℕ). Underway c.args.subgraph.now.graph.now c.args.subgraph.now.point.now c.args.subgraph.now.exclusion.now t limit least xs
    c.loop-number.front.numbers.items c.loop-number.front.settled.items c.loop-number.front.waiting.entries)
    (drop_of_length-le es past) (c.loop-number.invariant.underway t limit least under)
