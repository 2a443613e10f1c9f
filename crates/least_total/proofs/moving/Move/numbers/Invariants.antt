use Rattle.std.proofs.Common.{◌≡◌, map}
use Rattle.cost_base.specs.Lists.{numbers_from}
use Rattle.least_total.specs.Moving.{moved_number}
use Rattle.least_total.proofs.moving.Move.numbers.Given as goal

abbrev pub invariant-loop-row : goal.invariant-loop-row
invariant-loop-row l = l.numbers.items ≡ map (moved_number l.self.place l.self.others) (numbers_from 0 l.row)
