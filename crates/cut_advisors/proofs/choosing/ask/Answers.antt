-- The box and what its `deref_mut` gave are one object, so what `pick` says of the second holds of the first.
use Rattle.std.proofs.Common.{ap, ◌∙◌}
use Rattle.cut_advisors.proofs.choosing.ask.Goals as goal

pub returns-clause-answer : goal.returns-clause-answer
returns-clause-answer g c =
    c.pick.ensures.0
    ∙ ap (λ p. (goal.Advisor-dyn g p).would ((goal.Advisor-dyn g p).state p.1) c.args.candidates.now) c.deref_box_mut-1.ensures.value.1

pub returns-clause-state : goal.returns-clause-state
returns-clause-state g c =
    c.pick.ensures.1
    ∙ ap (λ p. (goal.Advisor-dyn g p).left ((goal.Advisor-dyn g p).state p.1) c.args.candidates.now) c.deref_box_mut-1.ensures.value.1
