use Rattle.wanted_paths.proofs.LoopSteps.{one_more}
use Rattle.area_graph.specs.declared.Price.TheVariants.{Fixed}
use Rattle.lsdb_build.specs.declared.Linked.{Linked}
use Rattle.wanted_paths.proofs.names.ones.Goals as goal

pub loop-link-preserved : goal.loop-link-preserved
loop-link-preserved c =
    one_more (λ (link : Linked). Fixed 1) c.args.links.now c.loop-link.link-index c.link-item.result c.loop-link.made.items c.push.new.self.items
    c.unit_price.result c.loop-link-test.true c.loop-link.invariant c.unit_price.ensures c.in_ok-push.ensures.items
