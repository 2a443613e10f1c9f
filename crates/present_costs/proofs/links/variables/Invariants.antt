-- the variables before
use Rattle.std.proofs.Common.{◌≡◌, map}
use Rattle.cost_base.specs.Lists.{numbers_from}
use Rattle.area_graph.specs.declared.Price.TheVariants.{Var}
use Rattle.present_costs.proofs.links.variables.Given as goal

abbrev pub invariant-loop-number : goal.invariant-loop-number
invariant-loop-number l = l.prices.items ≡ map Var (numbers_from 0 l.number)
