use Rattle.std.proofs.Common.{rules}
use Rattle.cost_base.proofs.out_sink.write_some.Goals as goal

pub returns-in-Ok-eq0-clause-within : goal.returns-in-Ok-eq0-clause-within
returns-in-Ok-eq0-clause-within g c = search rules

pub returns-in-Ok-eq0-clause-some : goal.returns-in-Ok-eq0-clause-some
returns-in-Ok-eq0-clause-some g c = search rules
