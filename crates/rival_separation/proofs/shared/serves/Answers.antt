use Rattle.std.proofs.Common.{refl, arith}
use Rattle.std.proofs.lemmas.Bool.{leb-true}
use Rattle.design_problem.specs.Problems.{request_ends}
use Rattle.rival_separation.proofs.RivalLemmas.{found_as}
use Rattle.rival_separation.proofs.shared.serves.Goals as goal

pub returns : goal.returns
returns c = λ enough room shared. record {
  limit = c.args.shared.now.limit;
  above = (let below = leb-true c.least_lead.result c.args.shared.now.limit enough in let lead = c.least_lead.ensures in omega arith);
  found = found_as c.args.outlook.now.graph.now c.args.outlook.now.point.now (request_ends c.args.shared.now.request.now)
      (request_ends c.args.outlook.now.request.now) c.args.shared.now.limit room shared (c.if-not-share.ensures.end refl)
      (c.if-not-share.ensures.excluded refl);
}
