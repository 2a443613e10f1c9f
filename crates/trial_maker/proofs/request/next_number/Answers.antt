use Rattle.std.proofs.Common.{rules}
use Rattle.trial_maker.proofs.request.next_number.Goals as goal

pub returns-clause-next : goal.returns-clause-next
returns-clause-next c = search rules
