use Rattle.std.proofs.Common.{◌∙◌, ap, get_or, ◌+◌, ◌∷◌}
use Rattle.design_problem.specs.Boxes.{with_high, with_low}
use Rattle.design_problem.specs.Stack.{OpenBoxes}
use Rattle.design_problem.proofs.StackLaws.{moved_second}
use Rattle.design_problem.proofs.open_boxes.OpenBoxes.cut.Goals as goal

pub returns-clause-done : goal.returns-clause-done
returns-clause-done c =
    let var = c.args.var in
    let value = c.args.value in
    moved_second c.self.inside.costs c.set.new.self c.self.inside.changes.items c.push_last.new.things.items var value
    (get_or c.as_slice.result.now var 0) c.set.ensures c.in_ok-push_last.ensures.added
    (ap (λ xs. get_or xs var 0) c.as_slice.ensures)
    ∙ ap (λ (b : OpenBoxes). let d : OpenBoxes =
    record { present = with_high b.present var value; behind = with_low b.present var (value + 1) ∷ b.behind } in
    d) c.self.view_is
