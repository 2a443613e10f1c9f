-- One place less is open.
use Rattle.std.proofs.Common.{◌++◌, length}
use Rattle.design_problem.specs.OpenPlaces.{undones}
use Rattle.design_problem.proofs.UndonePlaces.{undone_fewer, undone_more}
use Rattle.design_problem.proofs.tree_builder.TreeBuilder.undone.Goals as goal

pub loop-tree-smaller : goal.loop-tree-smaller
loop-tree-smaller c =
    undone_fewer c.loop-tree.tree c.in_ok-tree.tree (c.is_open.ensures.0 c.loop-tree-test.true) c.in_ok-tree.ensures

pub loop-tree-preserved : goal.loop-tree-preserved
loop-tree-preserved c =
    undone_more c.loop-tree.tree c.in_ok-tree.tree (c.args.self.entries ++ undones (length c.args.self.places))
    (c.is_open.ensures.0 c.loop-tree-test.true) c.in_ok-tree.ensures c.loop-tree.invariant
