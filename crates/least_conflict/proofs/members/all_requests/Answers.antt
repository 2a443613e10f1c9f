-- One number more.
use Rattle.std.proofs.Common.{refl}
use Rattle.least_conflict.proofs.Sets.{numbers_more}
use Rattle.least_conflict.proofs.members.all_requests.Goals as goal

pub loop-request-preserved : goal.loop-request-preserved
loop-request-preserved c = numbers_more _ _ c.loop-request.request _ refl c.loop-request.invariant c.in_ok-push.ensures.items
