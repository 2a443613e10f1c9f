use Rattle.std.proofs.Common.{rules, take, false, IsTrue, sym, subst}
use Rattle.cost_base.specs.Lists.{Lacks}
use Rattle.area_graph.specs.declared.Edge.{Edge}
use Rattle.area_graph.specs.Paths.{visited}
use Rattle.area_graph.proofs.Visits.{step_on, no_step_back}
use Rattle.area_graph.proofs.paths.has_none_twice.Goals as goal

pub returns-then-not-misses : goal.returns-then-not-misses
returns-then-not-misses c =
    let before = visited c.args.graph.now c.args.start (take c.loop-index.index c.args.edges.now) in
    let seen : Lacks before c.edge_of-next.result.to → IsTrue false = search rules in (
      λ yes. cc,
      λ once. seen (subst (λ (edge : Edge). Lacks before edge.to) (sym c.edge_of-next.ensures)
          (no_step_back c.args.graph.now c.args.start c.args.edges.now c.loop-index.index 0 c.loop-index-test.true once)),
    )

pub loop-index-preserved : goal.loop-index-preserved
loop-index-preserved c =
    let before = visited c.args.graph.now c.args.start (take c.loop-index.index c.args.edges.now) in
    let new : Lacks before c.edge_of-next.result.to = search rules in
    step_on c.args.graph.now c.args.start c.args.edges.now c.loop-index.index 0 c.loop-index-test.true c.loop-index.invariant
    (subst (λ (edge : Edge). Lacks before edge.to) c.edge_of-next.ensures new)
