use Rattle.std.proofs.Common.{rules}
use Rattle.spf_ties.proofs.next_hops.NextHopsIterator.next.Goals as goal

pub returns-in-Some-clause-steps : goal.returns-in-Some-clause-steps
returns-in-Some-clause-steps c = search rules
