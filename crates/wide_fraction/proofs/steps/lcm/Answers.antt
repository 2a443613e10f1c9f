use Rattle.std.proofs.Common.{rules}
use Rattle.wide_fraction.proofs.steps.lcm.Goals as goal

pub returns-in-Some-clause-exact : goal.returns-in-Some-clause-exact
returns-in-Some-clause-exact c = search rules
