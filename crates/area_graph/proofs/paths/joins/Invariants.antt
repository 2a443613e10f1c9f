use Rattle.std.proofs.Common.{◌↔◌, drop}
use Rattle.area_graph.specs.Paths.{Joins}
use Rattle.area_graph.proofs.paths.joins.Given as goal

abbrev pub invariant-loop-number : goal.invariant-loop-number
invariant-loop-number l =
    Joins l.graph l.fn.start l.edges l.end ↔ Joins l.graph l.at (drop l.number-index l.edges) l.end
