-- The box and what its `deref_mut` gave are one object, so what `told` says of the second holds of the first.
use Rattle.std.proofs.Common.{ap, ◌∙◌}
use Rattle.cut_advisors.proofs.choosing.tell_one.Goals as goal

pub returns-clause-state : goal.returns-clause-state
returns-clause-state g c =
    c.told.ensures
    ∙ ap (λ p. (goal.Advisor-dyn g p).after ((goal.Advisor-dyn g p).state p.1) c.args.entry.now) c.deref_box_mut-1.ensures.value.1
