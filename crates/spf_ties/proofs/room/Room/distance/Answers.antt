use Rattle.std.proofs.Common.{arith}
use Rattle.std.proofs.lemmas.Grind.{common_steps}
use Rattle.spf_ties.proofs.room.Room.distance.Goals as goal

pub returns-then-number-self : goal.returns-then-number-self
returns-then-number-self c = grind (arith, common_steps)
