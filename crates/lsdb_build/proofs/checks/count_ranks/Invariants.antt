use Rattle.std.proofs.Common.{take, reverse, map}
use Rattle.lsdb_build.specs.Tallies.{IsTally, same_trait, rank_on}
use Rattle.lsdb_build.proofs.checks.count_ranks.Given as goal

abbrev pub invariant-loop-port : goal.invariant-loop-port
invariant-loop-port l = IsTally same_trait l.ranks.counts (map rank_on (reverse (take l.port-index l.ports)))
