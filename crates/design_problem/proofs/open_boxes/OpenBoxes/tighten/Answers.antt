use Rattle.std.proofs.Common.{sym, ◌∙◌, ap, get_or}
use Rattle.design_problem.specs.declared.tree.Side.{Side}
use Rattle.design_problem.specs.declared.tree.Side.TheVariants.{Low, High}
use Rattle.design_problem.specs.Stack.{OpenBoxes}
use Rattle.design_problem.specs.Trees.{tightened}
use Rattle.design_problem.proofs.StackLaws.{moved_low, moved_high}
use Rattle.design_problem.proofs.open_boxes.OpenBoxes.tighten.Goals as goal

pub returns-in_ok-push_last-in-Low-clause-done : goal.returns-in_ok-push_last-in-Low-clause-done
returns-in_ok-push_last-in-Low-clause-done c =
    let now = c.args.self.now in
    let var = c.args.var in
    let value = c.args.value in
    moved_low c.self.inside.costs c.set.new.self c.self.inside.changes.items c.push_last.new.things.items var value
    (get_or c.as_slice.result.now var 0) c.set.ensures c.in_ok-push_last-in-Low.ensures.added
    (ap (λ xs. get_or xs var 0) c.as_slice.ensures)
    ∙ ap (λ (b : OpenBoxes). let d : OpenBoxes = record { present = tightened b.present Low var value; behind = b.behind } in d) c.self.view_is
    ∙ ap (λ (side : Side). let d : OpenBoxes = record { present = tightened now.present side var value; behind = now.behind } in d) (sym c.in-Low.is)

pub returns-in_ok-push_last-in-High-clause-done : goal.returns-in_ok-push_last-in-High-clause-done
returns-in_ok-push_last-in-High-clause-done c =
    let now = c.args.self.now in
    let var = c.args.var in
    let value = c.args.value in
    moved_high c.self.inside.costs c.set-in-High.new.self c.self.inside.changes.items c.push_last-in-High.new.things.items
    var value (get_or c.as_slice-in-High.result.now var 0) c.set-in-High.ensures c.in_ok-push_last-in-High.ensures.added
    (ap (λ xs. get_or xs var 0) c.as_slice-in-High.ensures)
    ∙ ap (λ (b : OpenBoxes). let d : OpenBoxes = record { present = tightened b.present High var value; behind = b.behind } in d) c.self.view_is
    ∙ ap (λ (side : Side). let d : OpenBoxes = record { present = tightened now.present side var value; behind = now.behind } in d) (sym c.in-High.is)
