use Rattle.std.proofs.Common.{rules}
use Rattle.rival_separation.proofs.deviation.deviation_cost.Goals as goal

pub returns-in-None : goal.returns-in-None
returns-in-None c = λ total deviation. c.in-None.ensures.onward deviation.rest deviation.onward

pub returns-in-Some : goal.returns-in-Some
returns-in-Some c = search rules
