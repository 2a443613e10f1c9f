use Rattle.std.proofs.Common.{◌≡◌}
use Rattle.cost_base.specs.Lists.{numbers_from}
use Rattle.least_conflict.proofs.members.all_requests.Given as goal

-- the numbers so far
abbrev pub invariant-loop-request : goal.invariant-loop-request
invariant-loop-request l = l.all.items ≡ numbers_from 0 l.request
