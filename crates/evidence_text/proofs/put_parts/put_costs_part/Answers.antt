use Rattle.evidence_text.proofs.PutLines.{put_as}
use Rattle.evidence_text.proofs.put_parts.put_costs_part.Goals as goal

pub put_some_costs-requires : goal.put_some_costs-requires
put_some_costs-requires g c = rw c.in-Some.is at c.requires

pub returns-in-None : goal.returns-in-None
returns-in-None g c = rw c.in-None.is (put_as c.start.ensures c.put.ensures)

pub returns-in-Some : goal.returns-in-Some
returns-in-Some g c = rw c.in-Some.is c.put_some_costs.ensures
