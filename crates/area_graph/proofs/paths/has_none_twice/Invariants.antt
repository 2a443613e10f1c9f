use Rattle.std.proofs.Common.{take}
use Rattle.cost_base.specs.Lists.{NoneTwice}
use Rattle.area_graph.specs.Paths.{visited}
use Rattle.area_graph.proofs.paths.has_none_twice.Given as goal

abbrev pub invariant-loop-index : goal.invariant-loop-index
invariant-loop-index l = NoneTwice (visited l.graph l.start (take l.index l.edges))
