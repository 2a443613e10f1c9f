use Rattle.std.proofs.Common.{arith}
use Rattle.design_problem.specs.Problems.{request_ends}
use Rattle.rival_separation.proofs.RivalLemmas.{leads_by}
use Rattle.rival_separation.proofs.rival.cheap_deviation.Goals as goal

pub returns-in-None : goal.returns-in-None
returns-in-None c =
    let found = c.requires.found in
    leads_by c.args.outlook.now.graph.now c.args.outlook.now.point.now (request_ends c.args.outlook.now.request.now) found.limit c.args.room.now
    c.args.outlook.now.request.now.path.edges c.keeps_conditions.ensures.fits found.found c.requires.path found.above
    (λ place e total deviation. absurd (c.in-None.ensures place e total deviation.within deviation))

pub returns-then-least_lead-best : goal.returns-then-least_lead-best
returns-then-least_lead-best c =
    let found = c.requires.found in
    leads_by c.args.outlook.now.graph.now c.args.outlook.now.point.now (request_ends c.args.outlook.now.request.now) found.limit c.args.room.now
    c.args.outlook.now.request.now.path.edges c.keeps_conditions.ensures.fits found.found c.requires.path found.above
    (λ place e total deviation. let least = c.in-Some.ensures.1 place e total deviation.within deviation in let value =
    c.least_lead.ensures in let more = c.if-least_lead-best.true in omega arith)
