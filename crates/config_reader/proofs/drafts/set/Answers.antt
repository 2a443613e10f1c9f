use Rattle.std.proofs.Common.{rules}
use Rattle.config_reader.proofs.drafts.set.Goals as goal

pub returns-in-Cost : goal.returns-in-Cost
returns-in-Cost c = search rules
