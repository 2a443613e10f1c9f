use Rattle.std.proofs.Common.{[]}
use Rattle.least_total.proofs.rounds.one_round.Given as goal

abbrev pub ghosts-search_within : goal.ghosts-search_within
ghosts-search_within a = record { problem = a.problem.now; rows = [] }
