use Rattle.std.proofs.Common.{take}
use Rattle.set_separation.specs.PrefixTrees.{IsGrown}
use Rattle.spread_sets.specs.Spreads.{paths_of}
use Rattle.spread_sets.proofs.member_sets.tree_of.Given as goal

-- the tree of the first members' paths
abbrev pub invariant-loop-member : goal.invariant-loop-member
invariant-loop-member l = IsGrown (paths_of l.problem l.members) (paths_of l.problem (take l.member-index l.members)) l.tree
