use Rattle.cost_branching.proofs.one_cap.decide_within.Given as goal

abbrev pub ghosts-search_rivals : goal.ghosts-search_rivals
ghosts-search_rivals g a = record { problem = a.problem.now; rows = a.pool.now.rows }
