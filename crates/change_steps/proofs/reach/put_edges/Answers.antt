use Rattle.std.proofs.Common.{◌∙◌, ◌++◌, ◌∷◌, [], ℕ, List, ap}
use Rattle.change_steps.proofs.reach.put_edges.Goals as goal

pub returns : goal.returns
returns c =
    c.in_ok-push.ensures.items ∙ ap (λ (l : List ℕ). c.args.edges.now.items ++ l ∷ []) (c.from_items.ensures ∙ c.in_ok-list.ensures)
