use Rattle.std.proofs.Common.{rules, ◌≡◌, ◌∙◌, ap, get_or}
use Rattle.area_graph.specs.declared.Path.{Path}
use Rattle.network_cases.proofs.MemberLemmas.{tree_more, tree_whole}
use Rattle.network_cases.proofs.outsiders.tree_of.Goals as goal

pub loop-path-init : goal.loop-path-init
loop-path-init c = c.in_ok-tree.ensures c.args.others.now

pub loop-path-preserved : goal.loop-path-preserved
loop-path-preserved c =
    let item : c.path-item.result ≡ get_or c.args.others.now c.loop-path.path-index c.path-item.result = search rules in
    tree_more c.args.first.now.edges c.args.others.now c.loop-path.path-index c.path-item.result c.loop-path.tree
    c.insert.new.self c.as_slice.result.now c.loop-path-test.true (c.as_slice.ensures
    ∙ ap (λ (path : Path). path.edges) item) c.loop-path.invariant c.in_ok-insert.ensures

pub returns : goal.returns
returns c = tree_whole c.args.first.now.edges c.args.others.now c.loop-path.path-index c.loop-path.tree c.loop-path-test.false c.loop-path.invariant
