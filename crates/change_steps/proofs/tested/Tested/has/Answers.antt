use Rattle.std.proofs.Common.{◌∙◌, List, Bool, sym, subst}
use Rattle.std.specs.Prelude.{Contains}
use Rattle.change_steps.proofs.TestedLaws.{has_state}
use Rattle.change_steps.proofs.tested.Tested.has.Goals as goal

pub returns : goal.returns
returns c =
    let told = has_state c.self.inside.states.keys c.args.marks.now in (
      λ is. subst (λ (xs : List (List Bool)). Contains xs c.args.marks.now) c.self.view_is (told.0 (sym c.contains.ensures ∙ is)),
      λ has. c.contains.ensures ∙ told.1 (subst (λ (xs : List (List Bool)). Contains xs c.args.marks.now) (sym c.self.view_is) has),
    )
