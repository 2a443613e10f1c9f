use Rattle.std.proofs.Common.{Option, None, refl, sym, get_or}
use Rattle.std.specs.Prelude.{unwrap_or}
use Rattle.std.proofs.lemmas.List.{get_or_default}
use Rattle.path_requests.specs.declared.ranges.Range.{Range}
use Rattle.path_requests.proofs.LinkSteps.{one_more}
use Rattle.path_requests.proofs.ranges.ranges_or.Goals as goal

pub loop-said-preserved : goal.loop-said-preserved
loop-said-preserved c =
    let range : Option Range → Range = λ said. unwrap_or said c.args.other in
    let decided = c.args.decided.now in
    let i = c.loop-said.said-index in
    let said : Option Range = get_or decided i None in
    one_more range decided decided i said c.loop-said.ranges.items c.push.new.self.items c.unwrap_or.result refl c.loop-said-test.true
    (sym (get_or_default decided i said None c.loop-said-test.true)) c.loop-said.invariant c.unwrap_or.ensures c.in_ok-push.ensures.items
