-- As many empty lists as the counter tells.
use Rattle.std.proofs.Common.{◌≡◌, [], map}
use Rattle.cost_base.specs.Lists.{numbers_from}
use Rattle.integer_pivots.specs.Uses.{uses_in}
use Rattle.integer_pivots.proofs.uses.empty_uses.Given as goal

abbrev pub invariant-loop : goal.invariant-loop
invariant-loop l = uses_in l.uses.items ≡ map (λ var. []) (numbers_from 0 l.counter)
