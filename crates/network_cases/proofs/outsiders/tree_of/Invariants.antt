use Rattle.std.proofs.Common.{take}
use Rattle.set_separation.specs.PrefixTrees.{IsGrown}
use Rattle.network_cases.specs.Members.{wanted_of}
use Rattle.network_cases.proofs.outsiders.tree_of.Given as goal

-- the tree of the first paths
abbrev pub invariant-loop-path : goal.invariant-loop-path
invariant-loop-path l = IsGrown (wanted_of l.first.edges l.others) (wanted_of l.first.edges (take l.path-index l.others)) l.tree
