use Rattle.std.proofs.Common.{rules}
use Rattle.area_graph.proofs.only_cheapest.is_dearer.Goals as goal

pub returns : goal.returns
returns c = search rules
