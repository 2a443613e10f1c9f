-- The bounds before the counter are the new ones.
use Rattle.std.proofs.Common.{◌≡◌, ◌++◌, take, drop}
use Rattle.fraction_table.proofs.restart.put_bounds.Given as goal

abbrev pub invariant-loop-var : goal.invariant-loop-var
invariant-loop-var l = l.bounds ≡ take l.var l.news ++ drop l.var l.initial.bounds
