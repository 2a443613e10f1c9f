use Rattle.std.proofs.Common.{◌≡◌}
use Rattle.cut_advisors.proofs.AskedAdvisors.{IsTold}
use Rattle.cut_advisors.proofs.choosing.tell.Given as goal

abbrev pub invariant-loop-advisor : goal.invariant-loop-advisor
invariant-loop-advisor g l =
    IsTold l.initial.advisor-items l.advisor-items l.advisor-index
    (λ b c. (c.vtable ≡ b.vtable) × ((goal.Advisor-dyn g (c.vtable, c.value)).state c.value
    ≡ (goal.Advisor-dyn g (b.vtable, b.value)).after
    ((goal.Advisor-dyn g (b.vtable, b.value)).state b.value) l.entry))
