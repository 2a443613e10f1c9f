use Rattle.std.proofs.Common.{◌<◌, ◌∙◌, ◌++◌, ◌∷◌, ℕ, Bool, List, [], ap, arith, cond, length, subst, sym}
use Rattle.cost_base.proofs.ListLemmas.{filter-numbers_from-push}
use Rattle.area_graph.specs.declared.Edge.{Edge}
use Rattle.area_graph.specs.Area.{Area, edge_at}
use Rattle.change_steps.specs.Rollouts.{variables_of_step}
use Rattle.change_steps.specs.Reaches.{has_price}
use Rattle.change_steps.proofs.reach.edges_of_step.Goals as goal

pub loop-number-init : goal.loop-number-init
loop-number-init c = c.new-edges.ensures.items

pub edge_of-edge-requires : goal.edge_of-edge-requires
edge_of-edge-requires c =
    subst (λ (g : Area). c.loop-number.number < length g.edges) (sym c.graph.ensures)
    (let below = c.loop-number-test.true in let count = c.edge_count-number-end.ensures in omega (arith, below, count))

pub loop-number-preserved : goal.loop-number-preserved
loop-number-preserved c =
    let r = c.args.rollout.now in
    let n = c.loop-number.number in
    let edges = c.loop-number.edges.items in
    let edge_is = c.edge_of-edge.ensures ∙ ap (λ (g : Area). edge_at g n) c.graph.ensures in
    let test = sym (ap (λ (ls : List ℕ). has_price ls (edge_at r.graph n).price) (sym c.variables-variables.ensures)
    ∙ ap (λ (x : Edge). has_price c.variables-variables.result.now x.price) (sym edge_is) ∙ sym c.has_price.ensures) in
    filter-numbers_from-push (λ e. has_price (variables_of_step r.moves c.args.step) (edge_at r.graph e).price) n edges c.push_if.new.things.items
    c.loop-number.invariant (c.in_ok-push_if.ensures ∙ ap (λ (b : Bool). cond b (edges ++ n ∷ []) edges) test)
