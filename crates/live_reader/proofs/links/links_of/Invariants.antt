use Rattle.std.proofs.Common.{drop, List}
use Rattle.std.specs.Prelude.{option_to_list}
use Rattle.live_reader.specs.Places.{Placed}
use Rattle.live_reader.specs.Walks.{StandAt}
use Rattle.live_reader.specs.JsonLinks.{link_read}
use Rattle.live_reader.proofs.EachLaws.{AreLeft}
use Rattle.live_reader.proofs.links.links_of.Given as goal

-- the links that were read stand before those of the places that are left
abbrev pub invariant-loop-place : goal.invariant-loop-place
invariant-loop-place l = (said : List Placed) → StandAt l.fn.tape l.fn.places said →
    AreLeft option_to_list (link_read l.fn.around) l.fn.tape (drop l.place-index l.places) l.links.items said
