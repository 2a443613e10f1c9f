use Rattle.std.proofs.Common.{◌≡◌, ◌↔◌, drop}
use Rattle.area_graph.specs.Costs.{cost}
use Rattle.area_graph.specs.Distances.{OtherEdgesLeadToMore}
use Rattle.area_graph.proofs.only_cheapest.leads.Given as goal

abbrev pub invariant-loop-number : goal.invariant-loop-number
invariant-loop-number l = record {
  rest : l.rest ≡ cost l.subgraph.graph.now l.subgraph.point.now (drop l.number-index l.path.edges);
  same : OtherEdgesLeadToMore l.subgraph.graph.now l.subgraph.point.now l.subgraph.exclusion.now l.distances l.path.edges ↔
      OtherEdgesLeadToMore l.subgraph.graph.now l.subgraph.point.now l.subgraph.exclusion.now l.distances (drop l.number-index l.path.edges);
}
