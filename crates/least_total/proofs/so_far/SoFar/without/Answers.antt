use Rattle.std.proofs.Common.{rules}
use Rattle.least_total.proofs.so_far.SoFar.without.Goals as goal

pub overflow_add-result : goal.overflow_add-result
overflow_add-result c = search rules

pub returns-clause-holds : goal.returns-clause-holds
returns-clause-holds c = search rules

pub returns-clause-least : goal.returns-clause-least
returns-clause-least c = search rules
