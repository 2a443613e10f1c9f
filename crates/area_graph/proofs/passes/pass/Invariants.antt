use Rattle.area_graph.proofs.PassSteps.{Passed}
use Rattle.area_graph.proofs.passes.pass.Given as goal

abbrev pub invariant-loop-number : goal.invariant-loop-number
invariant-loop-number l = Passed l.subgraph.graph.now l.subgraph.point.now l.subgraph.exclusion.now l.number l.initial.distances.items l.distances.items
    l.lowered
