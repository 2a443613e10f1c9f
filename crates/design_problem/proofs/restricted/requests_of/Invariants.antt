use Rattle.std.proofs.Common.{◌≡◌, map, take}
use Rattle.design_problem.specs.Problems.{request_at}
use Rattle.design_problem.proofs.restricted.requests_of.Given as goal

abbrev pub invariant-loop-member : goal.invariant-loop-member
invariant-loop-member l = l.kept.items ≡ map (request_at l.requests) (take l.member-index l.members)
