use Rattle.std.proofs.Common.{rules}
use Rattle.area_graph.proofs.paths.is_path_of.Goals as goal

pub returns-then-is_simple : goal.returns-then-is_simple
returns-then-is_simple c = search rules
