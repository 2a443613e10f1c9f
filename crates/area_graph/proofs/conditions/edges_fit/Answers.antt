use Rattle.std.proofs.Common.{refl, subst, List, All}
use Rattle.std.proofs.lemmas.List.Elements.{All-more}
use Rattle.std.proofs.lemmas.List.{take_all}
use Rattle.area_graph.specs.declared.Edge.{Edge}
use Rattle.area_graph.specs.declared.Price.TheVariants.{Fixed}
use Rattle.area_graph.specs.Area.{FitsEdge}
use Rattle.area_graph.proofs.conditions.edges_fit.Goals as goal

-- what a read past the end would give
abbrev first_edge : Edge
first_edge = record { from = 0; to = 0; price = Fixed 0 }

pub returns-then-not-fits_edge : goal.returns-then-not-fits_edge
returns-then-not-fits_edge c =
    (λ yes. cc, λ all. (c.if-not-fits_edge.ensures c.args.edges.now).1 (all c.loop-edge.edge-index first_edge c.loop-edge-test.true))

pub loop-edge-preserved : goal.loop-edge-preserved
loop-edge-preserved c =
    All-more (FitsEdge (record { vertices = c.args.vertices.now; edges = c.args.edges.now })) c.args.edges.now
    c.loop-edge.edge-index first_edge c.loop-edge-test.true c.loop-edge.invariant
    ((c.if-not-fits_edge.ensures c.args.edges.now).0 refl)

pub returns : goal.returns
returns c = (
  λ yes. subst (λ (edges : List Edge). All (FitsEdge (record { vertices = c.args.vertices.now; edges = c.args.edges.now })) edges)
      (take_all c.loop-edge.edge-index c.args.edges.now c.loop-edge-test.false) c.loop-edge.invariant,
  λ all. refl,
)
