-- the links before are noted
use Rattle.present_costs.proofs.NotedLaws.{AreNoted}
use Rattle.present_costs.proofs.variables.noted_of_links.Given as goal

abbrev pub invariant-loop-i : goal.invariant-loop-i
invariant-loop-i l = AreNoted l.request_file l.lsdb l.count l.i l.noted.items
