-- the costs of the variables before
use Rattle.std.proofs.Common.{◌≡◌, map}
use Rattle.cost_base.specs.Lists.{numbers_from}
use Rattle.present_costs.specs.Noted.{noted_within}
use Rattle.present_costs.proofs.variables.costs_within.Given as goal

abbrev pub invariant-loop-i : goal.invariant-loop-i
invariant-loop-i l = l.costs.items ≡ map (noted_within l.low l.high l.noted) (numbers_from 0 l.i)
