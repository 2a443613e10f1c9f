use Rattle.spread_sets.specs.MemberSets.{sets_in}
use Rattle.spread_sets.proofs.finding.find_spread.Given as goal

abbrev pub ghosts-search_sets : goal.ghosts-search_sets
ghosts-search_sets a = record { problem = a.problem.now; sets = sets_in a.sets.items }
