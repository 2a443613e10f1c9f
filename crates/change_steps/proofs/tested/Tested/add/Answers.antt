use Rattle.std.proofs.Common.{◌∙◌, ◌++◌, ◌∷◌, [], List, Bool, ap, subst}
use Rattle.std.specs.Prelude.{Contains}
use Rattle.change_steps.proofs.TestedLaws.{state_added}
use Rattle.change_steps.proofs.tested.Tested.add.Goals as goal

pub returns-clause-added : goal.returns-clause-added
returns-clause-added c =
    state_added c.self.inside.states.keys c.insert.new.self.keys c.in_ok-marks.marks c.args.marks.now c.in_ok-marks.ensures.items
    (λ has. c.requires (subst (λ (xs : List (List Bool)). Contains xs c.args.marks.now) c.self.view_is has)) c.in_ok-insert.ensures.keys
    ∙ ap (λ (xs : List (List Bool)). xs ++ c.args.marks.now ∷ []) c.self.view_is
