use Rattle.std.proofs.Common.{rules}
use Rattle.wide_fraction.proofs.steps.add.Goals as goal

pub returns-clause-wide : goal.returns-clause-wide
returns-clause-wide c = search rules
