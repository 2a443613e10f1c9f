use Rattle.std.proofs.Common.{arith}
use Rattle.set_separation.proofs.outsider.find_outsider.Goals as goal

pub find_outsider_at_hand-requires-clause-found : goal.find_outsider_at_hand-requires-clause-found
find_outsider_at_hand-requires-clause-found c = record {
  limit = c.least_lead.result;
  above = (let value = c.least_lead.ensures in omega arith);
  found = c.find_distances.ensures;
}
