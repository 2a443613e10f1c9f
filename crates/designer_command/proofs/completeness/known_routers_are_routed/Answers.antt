use Rattle.designer_command.proofs.FurtherCommands.{routed}
use Rattle.designer_command.proofs.completeness.known_routers_are_routed.Goals as goal

pub returns : goal.returns
returns c = routed
