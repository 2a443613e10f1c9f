use Rattle.std.proofs.Common.{◌≤◌, ◌<◌, ◌+◌, [], ℕ, length}
use Rattle.spf_ties.specs.Searches.{AreSearchNumbers, Underway, open_edges}
use Rattle.spf_ties.proofs.search.find.Given as goal

abbrev pub invariant-loop-entry : goal.invariant-loop-entry
invariant-loop-entry l = record {
  front : AreSearchNumbers l.subgraph.graph.now l.subgraph.point.now l.front.numbers.items l.front.settled.items;
  places : length l.subgraph.graph.now.edges < l.front.waiting.places;
  room : length l.front.waiting.entries + open_edges l.subgraph.graph.now l.front.settled.items ≤ length l.subgraph.graph.now.edges + 1;
  underway : (least : ℕ) × Underway l.subgraph.graph.now l.subgraph.point.now l.subgraph.exclusion.now l.target l.limit least [] l.front.numbers.items
      l.front.settled.items l.front.waiting.entries;
}

abbrev pub decreases-loop-entry : goal.decreases-loop-entry
decreases-loop-entry l = length l.front.waiting.entries + open_edges l.subgraph.graph.now l.front.settled.items
