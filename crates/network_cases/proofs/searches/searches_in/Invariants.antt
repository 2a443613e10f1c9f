use Rattle.spf_ties.specs.Distances.{IsRoomFor}
use Rattle.network_cases.proofs.searches.searches_in.Given as goal

abbrev pub invariant-loop-word : goal.invariant-loop-word
invariant-loop-word l = IsRoomFor l.graph l.room
