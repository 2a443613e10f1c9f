use Rattle.std.proofs.Common.{◌≡◌, length}
use Rattle.change_steps.specs.Reaches.{AreLeastTo}
use Rattle.change_steps.proofs.reach.least_to.Given as goal

abbrev pub invariant-loop-vertex : goal.invariant-loop-vertex
invariant-loop-vertex l = record {
  count : length l.least.items ≡ l.vertex;
  least : AreLeastTo l.graph l.point l.target l.least.items;
}
