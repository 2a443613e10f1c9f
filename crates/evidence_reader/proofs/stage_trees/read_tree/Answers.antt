use Rattle.std.proofs.Common.{◌<◌, ◌^◌, length, arith}
use Rattle.std.proofs.lemmas.Result.{err_from_is_err_and}
use Rattle.evidence_reader.proofs.NextPlaces.{stop-then}
use Rattle.evidence_reader.proofs.TreeLines.{tree_read}
use Rattle.evidence_reader.proofs.stage_trees.read_tree.Goals as goal

pub returns-in-NoTree : goal.returns-in-NoTree
returns-in-NoTree c = (tt, rw c.in-NoTree.is at c.in_ok-head.ensures)

pub returns-in_err-tree-in-TreeHead : goal.returns-in_err-tree-in-TreeHead
returns-in_err-tree-in-TreeHead c =
    let p = err_from_is_err_and c.from_residual-in_err-tree-in-TreeHead.result c.from_residual-in_err-tree-in-TreeHead.ensures.1 in
    let head = rw c.in-TreeHead.is at c.in_ok-head.ensures in
    rw (p.1, p.2) (stop-then _ head (c.in_err-tree-in-TreeHead.ensures c.args.part))

pub returns-in_ok-tree-in-TreeHead : goal.returns-in_ok-tree-in-TreeHead
returns-in_ok-tree-in-TreeHead c =
    let head = rw c.in-TreeHead.is at c.in_ok-head.ensures in
    let found = c.in_ok-tree-in-TreeHead.ensures c.args.part in
    let few : length c.in_ok-tree-in-TreeHead.tree < 2 ^ 32 = omega (arith, found.0) in (
      record { count = few; entries = found.1 },
      tree_read c.args.part c.in-TreeHead.cap c.in-TreeHead.count c.in_ok-tree-in-TreeHead.tree found.0 head found.2,
    )
