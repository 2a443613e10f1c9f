use Rattle.std.proofs.Common.{rules}
use Rattle.live_area.proofs.interfaces.compared_line.Goals as goal

pub returns-then-live-interface : goal.returns-then-live-interface
returns-then-live-interface c = search rules

pub returns-in-None : goal.returns-in-None
returns-in-None c = search rules
