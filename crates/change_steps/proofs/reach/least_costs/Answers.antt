use Rattle.std.proofs.Common.{◌∙◌, ◌++◌, ◌∷◌, [], ℕ, List, ap, map, sym}
use Rattle.cost_base.specs.Lists.{numbers_from}
use Rattle.area_graph.proofs.Vertices.{map-numbers_from-push}
use Rattle.change_steps.specs.Reaches.{least_cost}
use Rattle.change_steps.proofs.reach.least_costs.Goals as goal

pub loop-variable-preserved : goal.loop-variable-preserved
loop-variable-preserved c =
    c.in_ok-push.ensures.items ∙ ap (λ (xs : List ℕ). xs ++ c.least_cost.result ∷ []) c.loop-variable.invariant
    ∙ ap (λ (x : ℕ). map (least_cost c.args.rollout.now.moves) (numbers_from 0 c.loop-variable.variable) ++ x ∷ []) c.least_cost.ensures
    ∙ sym (map-numbers_from-push (least_cost c.args.rollout.now.moves) c.loop-variable.variable)
