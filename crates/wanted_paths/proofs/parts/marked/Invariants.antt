use Rattle.std.proofs.Common.{◌≡◌}
use Rattle.std.specs.Prelude.{filter}
use Rattle.cost_base.specs.Lists.{numbers_from}
use Rattle.cost_base.specs.Marks.{is_marked}
use Rattle.wanted_paths.proofs.parts.marked.Given as goal

-- the marked ones of the edges so far
abbrev pub invariant-loop-edge : goal.invariant-loop-edge
invariant-loop-edge l = l.found.items ≡ filter (is_marked l.fn.marks) (numbers_from 0 l.edge)
