use Rattle.std.proofs.Common.{Bool}
use Rattle.std.specs.Prelude.{◌&&◌, is_some}
use Rattle.lsdb_build.specs.declared.Linked.{Linked}
use Rattle.path_requests.proofs.LinkSteps.{one_more}
use Rattle.path_requests.proofs.symmetric.tied_by_all.Goals as goal

pub loop-link-preserved : goal.loop-link-preserved
loop-link-preserved c =
    let tied : Linked → Bool = λ link. c.args.all && is_some link.link_back in
    one_more tied c.links-link-items.result.now c.args.names.now.links c.loop-link.link-index c.link-item.result c.loop-link.marks.items
    c.push.new.self.items c.is_tied.result c.links-link-items.ensures.value c.loop-link-test.true c.link-item.is c.loop-link.invariant c.is_tied.ensures
    c.in_ok-push.ensures.items
