use Rattle.std.proofs.Common.{rules}
use Rattle.rival_separation.proofs.rival.cheapest_rival.Goals as goal

pub returns-then-find_rival : goal.returns-then-find_rival
returns-then-find_rival c = search rules
