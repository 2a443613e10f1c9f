use Rattle.std.proofs.Common.{rules}
use Rattle.live_area.proofs.metrics.name_of_link.Goals as goal

pub returns : goal.returns
returns c = search rules
