use Rattle.std.proofs.Common.{rules, ◌≡◌, get_or, subst}
use Rattle.std.specs.Prelude.{All, IsTrue}
use Rattle.std.proofs.lemmas.List.{take_all}
use Rattle.std.proofs.lemmas.List.Elements.{All-more}
use Rattle.network_cases.specs.Members.{TiesWith}
use Rattle.network_cases.proofs.outsiders.all_tie.Goals as goal

pub loop-path-preserved : goal.loop-path-preserved
loop-path-preserved c =
    let ties = TiesWith c.args.outlook.now.graph.now c.args.outlook.now.point.now c.args.outlook.now.request.now in
    let item : c.path-item.result ≡ get_or c.args.others.now c.loop-path.path-index c.path-item.result = search rules in
    let told : IsTrue c.ties_with.result = search rules in
    All-more ties c.args.others.now c.loop-path.path-index c.path-item.result c.loop-path-test.true
    c.loop-path.invariant (subst ties item (c.ties_with.ensures told))

pub returns : goal.returns
returns c = λ told. subst (All (TiesWith c.args.outlook.now.graph.now c.args.outlook.now.point.now c.args.outlook.now.request.now))
    (take_all c.loop-path.path-index c.args.others.now c.loop-path-test.false) c.loop-path.invariant
