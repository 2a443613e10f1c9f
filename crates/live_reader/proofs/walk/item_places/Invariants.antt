use Rattle.std.proofs.Common.{◌+◌, ◌-◌, length}
use Rattle.json.specs.Json.{Items, array}
use Rattle.live_reader.specs.Places.{Stands}
use Rattle.live_reader.specs.Walks.{HaveSeenItems, StandAt}
use Rattle.live_reader.proofs.walk.item_places.Given as goal

-- the places are those of the items that were seen
abbrev pub invariant-loop-end : goal.invariant-loop-end
invariant-loop-end l = (js : Items) → Stands l.fn.tape l.fn.place (array js) →
    HaveSeenItems l.fn.tape (l.fn.place + 1) js l.next (λ seen. StandAt l.fn.tape l.places.items seen)

abbrev pub decreases-loop-end : goal.decreases-loop-end
decreases-loop-end l = length l.tape - l.next
