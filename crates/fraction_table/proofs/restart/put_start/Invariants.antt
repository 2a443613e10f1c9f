-- The members before the counter are those of the starting basis.
use Rattle.std.proofs.Common.{◌≡◌, ◌++◌, take, drop}
use Rattle.fraction_table.specs.Tableaus.{starting}
use Rattle.fraction_table.proofs.restart.put_start.Given as goal

abbrev pub invariant-loop-var : goal.invariant-loop-var
invariant-loop-var l = l.basis ≡ take l.var (starting l.costs) ++ drop l.var l.initial.basis
