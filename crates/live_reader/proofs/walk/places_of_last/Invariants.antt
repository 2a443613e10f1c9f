use Rattle.live_reader.proofs.PlaceLaws.{AreGathered}
use Rattle.live_reader.proofs.walk.places_of_last.Given as goal

-- what is gathered are names and places of the steps from this number on
abbrev pub invariant-loop-left : goal.invariant-loop-left
invariant-loop-left l = AreGathered l.steps l.left l.names l.places.items

abbrev pub decreases-loop-left : goal.decreases-loop-left
decreases-loop-left l = l.left
