use Rattle.design_problem.specs.Problems.{request_ends}
use Rattle.rival_separation.proofs.RivalLemmas.{leads_not}
use Rattle.rival_separation.proofs.asker.leads.Goals as goal

pub returns-in-Some : goal.returns-in-Some
returns-in-Some c =
    let found = c.requires.found in
    let best = c.in-Some.ensures.0 in
    leads_not c.args.outlook.now.graph.now c.args.outlook.now.point.now (request_ends c.args.outlook.now.request.now) found.limit c.args.room.now
    c.args.outlook.now.request.now.path.edges _ _ _ c.keeps_conditions.ensures.fits c.requires.fits found.found c.requires.path
    best.0 (λ k i other deviation. best.1 k i other deviation.within deviation) c.in-Some.ensures.1 found.above
