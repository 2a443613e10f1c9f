use Rattle.std.proofs.Common.{◌≡◌, ◌-◌, List, length}
use Rattle.cost_branching.specs.AdvisorsAsked.{AreAskedInTurn}
use Rattle.least_conflict.specs.AdvisorsAsked.{IsAskedOfRequests, SetDecision}
use Rattle.least_conflict.specs.Deciding.{AreBefore, IsShrunk}
use Rattle.least_conflict.proofs.finding.shrink.Given as goal

-- the conflict so far, and the searches that led to it and left the advisors as they stand
abbrev pub invariant-loop-shrunk : goal.invariant-loop-shrunk
invariant-loop-shrunk g l = record {
  shrunk : IsShrunk l.problem l.shrunk;
  asked : (ds : List SetDecision) × AreBefore l.initial.shrunk l.shrunk ds
      × AreAskedInTurn
      (IsAskedOfRequests (λ b c. c.vtable ≡ b.vtable) (λ b. (goal.Advisor-dyn g (b.vtable, b.value)).state b.value)
      (λ b. (goal.Advisor-dyn g (b.vtable, b.value)).would) (λ b. (goal.Advisor-dyn g (b.vtable, b.value)).left)
      (λ b. (goal.Advisor-dyn g (b.vtable, b.value)).after)
      l.problem l.limits.top l.limits.nodes)
      ds l.initial.advisors.items l.advisors.items;
}

-- the members that are left to try
abbrev pub decreases-loop-shrunk : goal.decreases-loop-shrunk
decreases-loop-shrunk g l = length l.shrunk.members - length l.shrunk.without.items
