use Rattle.network_cases.specs.Members.{wanted_of}
use Rattle.network_cases.proofs.MemberLemmas.{tied_tree}
use Rattle.network_cases.proofs.outsiders.outsider_of.Goals as goal

pub outsider_beside-requires-clause-tree : goal.outsider_beside-requires-clause-tree
outsider_beside-requires-clause-tree c = (
  wanted_of c.args.outlook.now.request.now.path.edges c.args.others.now,
  tied_tree c.args.outlook.now.graph.now c.args.outlook.now.point.now c.args.outlook.now.request.now c.args.others.now c.in_ok-tree.tree c.requires.first
      c.requires.others c.in_ok-tree.ensures,
)
