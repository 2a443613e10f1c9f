-- The parts so far are the picked ones of the first.
use Rattle.std.proofs.Common.{◌≡◌, ◌++◌, map, take}
use Rattle.design_problem.specs.Renumbering.{renumbered_multiplier}
use Rattle.least_total.specs.Moving.{moved_number, picked}
use Rattle.least_total.proofs.moving.Move.push_parts.Given as goal

abbrev pub invariant-loop-row : goal.invariant-loop-row
invariant-loop-row l = l.pairs.items ≡ l.fn.pairs.items
    ++ map (renumbered_multiplier (moved_number l.self.place l.self.others))
    (picked l.own l.self.place (take l.row-index l.parts))
