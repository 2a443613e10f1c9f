use Rattle.std.proofs.Common.{[], ◌∷◌, drop, List}
use Rattle.live_reader.specs.Places.{Placed}
use Rattle.live_reader.specs.Walks.{StandAt}
use Rattle.live_reader.specs.JsonLsas.{lsa_read}
use Rattle.live_reader.proofs.EachLaws.{AreLeft}
use Rattle.live_reader.proofs.lsas.lsas_of.Given as goal

-- the LSAs that were read stand before those of the places that are left
abbrev pub invariant-loop-place : goal.invariant-loop-place
invariant-loop-place l = (said : List Placed) → StandAt l.fn.tape l.fn.places said →
    AreLeft (λ lsa. lsa ∷ []) (lsa_read l.fn.around) l.fn.tape (drop l.place-index l.places) l.lsas.items said
