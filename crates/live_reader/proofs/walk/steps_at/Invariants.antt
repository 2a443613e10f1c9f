use Rattle.std.proofs.Common.{◌+◌, ◌-◌, length}
use Rattle.json.specs.Json.{Members, object}
use Rattle.live_reader.specs.Places.{Stands}
use Rattle.live_reader.specs.Walks.{HaveSeen, StepOver}
use Rattle.live_reader.proofs.walk.steps_at.Given as goal

-- the steps go over the members that were seen
abbrev pub invariant-loop-step : goal.invariant-loop-step
invariant-loop-step l = (ms : Members) → Stands l.fn.tape l.fn.place (object ms) →
    HaveSeen l.fn.tape (l.fn.place + 1) ms l.next (λ seen. StepOver l.fn.tape l.steps.items seen)

abbrev pub decreases-loop-step : goal.decreases-loop-step
decreases-loop-step l = length l.tape - l.next
