use Rattle.std.proofs.Common.{◌∙◌, ◌++◌, ◌∷◌, [], ℕ, List, ap, sym, take}
use Rattle.std.proofs.lemmas.List.{take_more}
use Rattle.area_graph.proofs.points.point_of.Goals as goal

pub loop-cost-preserved : goal.loop-cost-preserved
loop-cost-preserved c =
    let costs = c.args.costs.now in
    let i = c.loop-cost.cost-index in
    ◌∙◌ {A = List ℕ} c.in_ok-push.ensures.items (ap (λ (ys : List ℕ). ys ++ c.from.result ∷ []) c.loop-cost.invariant
    ∙ ap (λ (x : ℕ). take i costs ++ x ∷ []) c.from.ensures ∙ sym (take_more costs i 0 c.loop-cost-test.true))
