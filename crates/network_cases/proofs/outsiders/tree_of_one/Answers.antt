use Rattle.network_cases.proofs.MemberLemmas.{one_grown}
use Rattle.network_cases.proofs.outsiders.tree_of_one.Goals as goal

pub returns : goal.returns
returns c = λ others. one_grown c.args.first.now.edges others c.new-tree.result c.insert.new.self c.as_slice.result.now
    c.new-tree.ensures c.as_slice.ensures c.in_ok-insert.ensures
