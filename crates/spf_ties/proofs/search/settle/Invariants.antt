use Rattle.std.proofs.Common.{◌≡◌, ◌≤◌, ◌+◌, ℕ, drop, length}
use Rattle.area_graph.specs.Area.{edges_in}
use Rattle.spf_ties.specs.Searches.{AreSearchNumbers, Underway}
use Rattle.spf_ties.proofs.search.settle.Given as goal

abbrev pub invariant-loop-number : goal.invariant-loop-number
invariant-loop-number l = record {
  front : AreSearchNumbers l.subgraph.graph.now l.subgraph.point.now l.front.numbers.items l.front.settled.items;
  settled : l.front.settled.items ≡ l.initial.front.settled.items;
  places : l.initial.front.waiting.places ≤ l.front.waiting.places;
  count : length l.front.waiting.entries ≤ length l.initial.front.waiting.entries + l.number-index;
  underway : (t limit least : ℕ) →
      Underway l.subgraph.graph.now l.subgraph.point.now l.subgraph.exclusion.now t limit least (edges_in l.subgraph.graph.now l.vertex)
      l.initial.front.numbers.items
      l.initial.front.settled.items l.initial.front.waiting.entries →
      Underway l.subgraph.graph.now l.subgraph.point.now l.subgraph.exclusion.now t limit least (drop l.number-index (edges_in l.subgraph.graph.now l.vertex))
      l.front.numbers.items l.front.settled.items l.front.waiting.entries;
}
