use Rattle.std.proofs.Common.{◌≡◌, length, vec_len}
use Rattle.cut_advisors.proofs.AskedAdvisors.{IsAsked}
use Rattle.cut_advisors.proofs.choosing.choose.Given as goal

abbrev pub invariant-loop-advisors : goal.invariant-loop-advisors
invariant-loop-advisors g l =
    IsAsked l.initial.advisors.items l.advisors.items (length l.candidates)
    (λ b. (goal.Advisor-dyn g (b.vtable, b.value)).would ((goal.Advisor-dyn g (b.vtable, b.value)).state b.value) l.candidates)
    (λ b c. (c.vtable ≡ b.vtable) × ((goal.Advisor-dyn g (c.vtable, c.value)).state c.value
    ≡ (goal.Advisor-dyn g (b.vtable, b.value)).left ((goal.Advisor-dyn g (b.vtable, b.value)).state b.value)
    l.candidates))

abbrev pub decreases-loop-advisors : goal.decreases-loop-advisors
decreases-loop-advisors g l = vec_len l.advisors
