use Rattle.std.proofs.Common.{◌≡◌, ◌+◌, ◌-◌, length, true}
use Rattle.std.specs.Prelude.{option_map}
use Rattle.std.specs.List.{list_all}
use Rattle.json.specs.Json.{Members, object}
use Rattle.live_reader.specs.Places.{Stands, last_where}
use Rattle.live_reader.specs.JsonLsas.{is_quad, names_area}
use Rattle.live_reader.specs.Walks.{HaveSeen}
use Rattle.live_reader.proofs.walk.area_place.Given as goal

-- the names of the members that were seen are dotted quads, and what was found is the last that names the area
abbrev pub invariant-loop-step : goal.invariant-loop-step
invariant-loop-step l = (ms : Members) → Stands l.fn.tape l.fn.place (object ms) →
    HaveSeen l.fn.tape (l.fn.place + 1) ms l.next
    (λ seen. (list_all is_quad seen ≡ true) × (l.found ≡ option_map (λ m. m.place) (last_where (names_area l.fn.area) seen)))

abbrev pub decreases-loop-step : goal.decreases-loop-step
decreases-loop-step l = length l.tape - l.next
