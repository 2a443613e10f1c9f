use Rattle.std.proofs.Common.{◌∙◌, ◌++◌, ◌∷◌, [], ℕ, List, ap, arith, map, sym}
use Rattle.cost_base.specs.Lists.{numbers_from}
use Rattle.area_graph.proofs.Vertices.{map-numbers_from-push}
use Rattle.change_steps.specs.Reaches.{edges_of_step}
use Rattle.change_steps.proofs.reach.edges_of_steps.Goals as goal

pub loop-step-init : goal.loop-step-init
loop-step-init c = c.new-edges.ensures.items

pub put_edges-requires : goal.put_edges-requires
put_edges-requires c = let below = c.loop-step-test.true in let count = c.step_count-step-end.ensures in omega (arith, below, count)

pub loop-step-preserved : goal.loop-step-preserved
loop-step-preserved c =
    c.in_ok-put_edges.ensures ∙ ap (λ (ls : List (List ℕ)). ls ++ edges_of_step c.args.rollout.now c.loop-step.step ∷ []) c.loop-step.invariant
    ∙ sym (map-numbers_from-push (edges_of_step c.args.rollout.now) c.loop-step.step)

pub returns : goal.returns
returns c =
    c.loop-step.invariant
    ∙ ap (λ (n : ℕ). map (edges_of_step c.args.rollout.now) (numbers_from 0 n))
    (let past = c.loop-step-test.false in let most = c.loop-step.auto.step-end in let count = c.step_count-step-end.ensures in omega (arith, past, most, count))
