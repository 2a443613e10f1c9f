use Rattle.std.proofs.Common.{◌<◌, ◌∙◌, ℕ, All, List, length, subst, sym, take_all}
use Rattle.std.proofs.lemmas.List.Elements.{All-more}
use Rattle.cost_base.specs.Marks.{is_marked}
use Rattle.change_steps.specs.Reaches.{IsHarmless}
use Rattle.change_steps.proofs.ReachLaws.{step_edges, step_edges_known, step_within}
use Rattle.change_steps.proofs.reach.Reach.spares.Goals as goal

pub edges-edge-items-requires : goal.edges-edge-items-requires
edges-edge-items-requires c = step_within c.args.rollout.now c.args.self.now c.args.step c.requires.reach c.requires.step

pub is_harmless-requires-clause-edge : goal.is_harmless-requires-clause-edge
is_harmless-requires-clause-edge c =
    subst (λ (es : List ℕ). All (λ e. e < length c.args.rollout.now.graph.edges) es)
    (sym (c.edges-edge-items.ensures ∙ step_edges c.args.rollout.now c.args.self.now c.args.step c.requires.reach c.requires.step))
    (step_edges_known c.args.rollout.now c.args.step) c.loop-edge.edge-index 0 c.loop-edge-test.true

pub loop-edge-preserved : goal.loop-edge-preserved
loop-edge-preserved c =
    All-more (IsHarmless c.args.rollout.now (is_marked c.args.state.now.done.items) c.args.number) c.edges-edge-items.result.now c.loop-edge.edge-index 0
    c.loop-edge-test.true c.loop-edge.invariant (c.is_harmless.ensures c.if-not-is_harmless.false)

pub returns : goal.returns
returns c = λ is.
    subst (λ (es : List ℕ). All (IsHarmless c.args.rollout.now (is_marked c.args.state.now.done.items) c.args.number) es)
    (take_all c.loop-edge.edge-index c.edges-edge-items.result.now c.loop-edge-test.false
    ∙ c.edges-edge-items.ensures ∙ step_edges c.args.rollout.now c.args.self.now c.args.step c.requires.reach c.requires.step) c.loop-edge.invariant
