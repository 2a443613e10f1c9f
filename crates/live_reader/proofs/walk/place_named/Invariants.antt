use Rattle.std.proofs.Common.{◌≡◌, ◌+◌, ◌-◌, length}
use Rattle.std.specs.Prelude.{option_map}
use Rattle.json.specs.Json.{Members, object}
use Rattle.live_reader.specs.Places.{Stands, member_named}
use Rattle.live_reader.specs.Walks.{HaveSeen}
use Rattle.live_reader.proofs.walk.place_named.Given as goal

-- what was found is the last of that name among the members that were seen
abbrev pub invariant-loop-step : goal.invariant-loop-step
invariant-loop-step l = (ms : Members) → Stands l.fn.tape l.fn.place (object ms) →
    HaveSeen l.fn.tape (l.fn.place + 1) ms l.next (λ seen. l.last ≡ option_map (λ m. m.place) (member_named l.fn.name seen))

abbrev pub decreases-loop-step : goal.decreases-loop-step
decreases-loop-step l = length l.tape - l.next
