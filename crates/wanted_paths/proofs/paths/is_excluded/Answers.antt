use Rattle.std.proofs.Common.{rules}
use Rattle.wanted_paths.proofs.paths.is_excluded.Goals as goal

pub returns-else-has_router : goal.returns-else-has_router
returns-else-has_router c = search rules
