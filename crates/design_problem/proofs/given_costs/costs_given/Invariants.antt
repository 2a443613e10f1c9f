use Rattle.std.proofs.Common.{◌≡◌, drop, length, replicate}
use Rattle.design_problem.specs.GivenCosts.{written}
use Rattle.design_problem.proofs.given_costs.costs_given.Given as goal

abbrev pub invariant-loop-index : goal.invariant-loop-index
invariant-loop-index l = record {
  left : written l.costs.items (drop l.index l.names) (drop l.index l.lines) ≡ written (replicate l.count 0) l.names l.lines;
  count : length l.costs.items ≡ l.count;
}
