use Rattle.std.proofs.Common.{rules}
use Rattle.wide_fraction.proofs.steps.mul.Goals as goal

pub returns-clause-exact : goal.returns-clause-exact
returns-clause-exact c = search rules
