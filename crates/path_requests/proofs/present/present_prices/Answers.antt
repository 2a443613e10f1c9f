use Rattle.std.proofs.Common.{ap}
use Rattle.area_graph.specs.declared.Price.{Price}
use Rattle.area_graph.specs.declared.Price.TheVariants.{Fixed}
use Rattle.lsdb_build.specs.declared.Linked.{Linked}
use Rattle.path_requests.specs.Meaning.{present_cost}
use Rattle.path_requests.proofs.LinkSteps.{one_more}
use Rattle.path_requests.proofs.present.present_prices.Goals as goal

pub loop-link-preserved : goal.loop-link-preserved
loop-link-preserved c =
    let price : Linked → Price = λ link. Fixed (present_cost c.args.request_file.now link) in
    one_more price c.links-link-items.result.now c.args.names.now.links c.loop-link.link-index c.link-item.result c.loop-link.made.items
    c.push.new.self.items (Fixed c.present_cost.result) c.links-link-items.ensures.value c.loop-link-test.true c.link-item.is c.loop-link.invariant
    (ap Fixed c.present_cost.ensures) c.in_ok-push.ensures.items
