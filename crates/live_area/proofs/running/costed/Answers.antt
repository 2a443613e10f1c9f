use Rattle.std.proofs.Common.{rules}
use Rattle.live_area.proofs.running.costed.Goals as goal

pub returns : goal.returns
returns c = search rules
