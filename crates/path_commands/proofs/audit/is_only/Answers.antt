-- Without a cheaper rival, and only then, the path is the only cheapest.
use Rattle.design_problem.specs.Problems.{request_ends}
use Rattle.path_commands.proofs.OnlyCheapest.{only_by_rival}
use Rattle.path_commands.proofs.audit.is_only.Goals as goal

pub returns-clause-only : goal.returns-clause-only
returns-clause-only c =
    only_by_rival c.args.graph.now c.args.point.now (request_ends c.args.request.now) c.args.request.now.path.edges
    c.find_rival.new.room.path c.find_rival.result c.requires.whole c.requires.path c.find_rival.ensures.rival
