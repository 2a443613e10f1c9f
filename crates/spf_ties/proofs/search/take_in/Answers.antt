use Rattle.std.proofs.Common.{rules, ◌≡◌, ◌<◌, ◌∙◌, sym, arith, length, false, true}
use Rattle.std.proofs.lemmas.List.{get_or_default}
use Rattle.cost_base.specs.Marks.{is_marked}
use Rattle.spf_ties.proofs.SearchLemmas.{passed_over, settled_next}
use Rattle.spf_ties.proofs.search.take_in.Goals as goal

pub returns-then-not-index-clause-underway : goal.returns-then-not-index-clause-underway
returns-then-not-index-clause-underway c = λ t limit least waiting under moved nearest.
    let within : c.args.entry.vertex < length c.args.front.now.settled.items = let known = c.requires.vertex in
    let marks = c.requires.front.marks in omega arith in
    let mark : c.index.result.now ≡ false = search rules in
    let waited : is_marked c.args.front.now.settled.items c.args.entry.vertex ≡ false =
    sym (c.index.ensures ∙ get_or_default c.args.front.now.settled.items c.args.entry.vertex c.index.result.now
    false within) ∙ mark in (
      c.args.entry.distance,
      c.settle.ensures.underway t limit c.args.entry.distance
          (settled_next c.args.subgraph.now.graph.now c.args.subgraph.now.point.now c.args.subgraph.now.exclusion.now t limit least
          c.args.front.now.numbers.items c.args.front.now.settled.items c.args.entry waiting
          c.args.front.now.waiting.entries c.requires.front under moved nearest waited),
    )

pub returns-else-not-index-clause-underway : goal.returns-else-not-index-clause-underway
returns-else-not-index-clause-underway c = λ t limit least waiting under moved nearest.
    let within : c.args.entry.vertex < length c.args.front.now.settled.items = let known = c.requires.vertex in
    let marks = c.requires.front.marks in omega arith in
    let mark : c.index.result.now ≡ true = search rules in
    let done : is_marked c.args.front.now.settled.items c.args.entry.vertex ≡ true =
    sym (c.index.ensures ∙ get_or_default c.args.front.now.settled.items c.args.entry.vertex c.index.result.now
    false within) ∙ mark in (
      least,
      passed_over c.args.subgraph.now.graph.now c.args.subgraph.now.point.now c.args.subgraph.now.exclusion.now t limit least
          c.args.front.now.numbers.items c.args.front.now.settled.items c.args.entry waiting
          c.args.front.now.waiting.entries under moved done,
    )
