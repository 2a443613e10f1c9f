use Rattle.std.proofs.Common.{List, All, subst}
use Rattle.std.proofs.lemmas.List.Elements.{All-more}
use Rattle.std.proofs.lemmas.List.{take_all}
use Rattle.area_graph.specs.declared.Edge.{Edge}
use Rattle.area_graph.specs.declared.Price.TheVariants.{Fixed}
use Rattle.area_graph.specs.Area.{IsMetric}
use Rattle.area_graph.proofs.adjacency.hold_metrics.Goals as goal

-- what a read past the end would give
abbrev first_edge : Edge
first_edge = record { from = 0; to = 0; price = Fixed 0 }

pub loop-edge-preserved : goal.loop-edge-preserved
loop-edge-preserved c = All-more (λ edge. IsMetric edge.price) c.args.edges.now c.loop-edge.edge-index first_edge
    c.loop-edge-test.true c.loop-edge.invariant c.hold_metric.ensures

pub returns : goal.returns
returns c =
    subst (λ (edges : List Edge). All (λ edge. IsMetric edge.price) edges)
    (take_all c.loop-edge.edge-index c.args.edges.now c.loop-edge-test.false) c.loop-edge.invariant
