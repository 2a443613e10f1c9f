use Rattle.spf_ties.specs.Distances.{IsRoomFor}
use Rattle.network_cases.proofs.searches.add_searches.Given as goal

abbrev pub invariant-loop-target : goal.invariant-loop-target
invariant-loop-target l = IsRoomFor l.search.graph.now l.room
