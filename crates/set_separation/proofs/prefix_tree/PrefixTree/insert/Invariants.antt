use Rattle.std.proofs.Common.{ℕ, List, take}
use Rattle.std.specs.Prelude.{Contains}
use Rattle.set_separation.specs.PrefixTrees.{IsGrown, IsUnderway}
use Rattle.set_separation.proofs.prefix_tree.PrefixTree.insert.Given as goal

abbrev pub invariant-loop-edge : goal.invariant-loop-edge
invariant-loop-edge l = (wanted done : List (List ℕ)) → Contains wanted l.edges → IsGrown wanted done l.fn.self →
    IsUnderway wanted done (take l.edge-index l.edges) l.place l.self
