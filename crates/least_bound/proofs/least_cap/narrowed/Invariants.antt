use Rattle.std.proofs.Common.{◌≡◌, ◌-◌, List}
use Rattle.cost_branching.specs.Pools.{IsRowPool}
use Rattle.least_bound.specs.AdvisorsAsked.{AreAskedAtCaps, CapDecision}
use Rattle.least_bound.specs.Caps.{IsBoundSoFar, caps_of}
use Rattle.least_bound.proofs.Settling.{AreCapsBefore}
use Rattle.least_bound.proofs.least_cap.narrowed.Given as goal

-- the pool's rows are true, and what is known is true; it is what the caps that were decided since have come to
abbrev pub invariant-loop-cap : goal.invariant-loop-cap
invariant-loop-cap g l = record {
  pool : IsRowPool l.problem l.pool;
  so_far : IsBoundSoFar l.problem l.limits.top l.limits.nodes l.pool l.so_far;
  decisions : List CapDecision;
  before : AreCapsBefore l.problem (caps_of l.initial.so_far) (caps_of l.so_far) decisions;
  asked : AreAskedAtCaps (λ b c. c.vtable ≡ b.vtable) (λ b. (goal.Advisor-dyn g (b.vtable, b.value)).state b.value)
      (λ b. (goal.Advisor-dyn g (b.vtable, b.value)).would) (λ b. (goal.Advisor-dyn g (b.vtable, b.value)).left)
      (λ b. (goal.Advisor-dyn g (b.vtable, b.value)).after) l.problem l.limits.top l.limits.nodes decisions l.initial.advisors.items l.advisors.items;
}

-- the caps that are left between
abbrev pub decreases-loop-cap : goal.decreases-loop-cap
decreases-loop-cap g l = l.so_far.most - l.so_far.least
