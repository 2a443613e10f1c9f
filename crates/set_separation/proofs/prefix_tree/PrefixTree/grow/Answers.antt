use Rattle.std.proofs.Common.{◌++◌, ◌∷◌, [], ◌∙◌, ap, sym, subst, List, length, length-append}
use Rattle.set_separation.specs.declared.prefix_tree.Step.{Step}
use Rattle.set_separation.specs.PrefixTrees.{HasStep}
use Rattle.set_separation.proofs.PrefixLemmas.{keys_grown}
use Rattle.set_separation.proofs.prefix_tree.PrefixTree.grow.Goals as goal

pub returns : goal.returns
returns c =
    let keys = c.self.inside.steps.keys in
    let step : Step = record { place = c.args.place; edge = c.args.edge } in
    let grown = c.in_ok-insert.ensures.keys
    ∙ keys_grown keys c.args.place c.args.edge
    (subst (λ (steps : List Step). HasStep steps c.args.place c.args.edge → ⊥) (sym c.self.view_is) c.requires) in
    let whole = grown ∙ ap (λ (steps : List Step). steps ++ step ∷ []) c.self.view_is in
    (whole, ap length (c.as_slice.ensures.keys ∙ whole) ∙ length-append c.args.self.now (step ∷ []))
