use Rattle.std.proofs.Common.{◌≡◌, ℕ, ◌<◌, [], length, get_or}
use Rattle.area_graph.specs.Adjacency.{listed_below}
use Rattle.area_graph.proofs.adjacency.edges_on.Given as goal

abbrev pub invariant-loop-number : goal.invariant-loop-number
invariant-loop-number l = record {
  count : length l.lists.items ≡ length l.vertices;
  lists : (v : ℕ) → v < length l.vertices → get_or l.lists.items v [] ≡ listed_below l.number l.side (record { vertices = l.vertices; edges = l.edges }) v;
}
