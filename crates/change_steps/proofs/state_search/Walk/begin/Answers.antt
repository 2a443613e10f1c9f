use Rattle.std.proofs.Common.{◌∙◌, ◌++◌, ◌∷◌, [], List, Bool, ap, refl}
use Rattle.change_steps.proofs.WalkLaws.{walk_begins}
use Rattle.change_steps.proofs.state_search.Walk.begin.Goals as goal

pub returns : goal.returns
returns c =
    walk_begins c.args.held_rollout.now _ c.keeps_conditions.ensures.rollout c.keeps_conditions.ensures.held c.requires
    c.in_ok-state.ensures.state c.in_ok-state.ensures.done c.new.ensures.items refl
    (c.in_ok-add.ensures.added ∙ ap (λ (xs : List (List Bool)). xs ++ c.deref.result.now ∷ []) c.new-tested.ensures
    ∙ ap (λ (m : List Bool). m ∷ []) c.deref.ensures.value)
    c.new-2.ensures.items
