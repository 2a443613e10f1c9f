use Rattle.std.proofs.Common.{◌≡◌}
use Rattle.spread_sets.proofs.MadeSets.{sets_below}
use Rattle.spread_sets.proofs.member_sets.all_sets.Given as goal

-- the sets of the first paths
abbrev pub invariant-loop-path : goal.invariant-loop-path
invariant-loop-path l = l.sets.items ≡ sets_below l.lines l.path
