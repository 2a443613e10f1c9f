use Rattle.std.proofs.Common.{get_or, ◌∙◌}
use Rattle.std.proofs.lemmas.List.Folds.{list_any_at}
use Rattle.lsa_writer.specs.Ends.{no_end}
use Rattle.live_area.specs.LiveLinks.{is_end_named, name_of_end}
use Rattle.live_area.proofs.LineSteps.{compared_step, own_name}
use Rattle.live_area.proofs.interfaces.compare_interfaces.Goals as goal

pub loop-link-preserved : goal.loop-link-preserved
loop-link-preserved c = λ all has.
    let end = get_or c.args.of.ends.now c.loop-link.link no_end in
    let known = list_any_at (is_end_named (name_of_end end)) c.args.of.ends.now c.loop-link.link no_end c.loop-link-test.true (own_name end) in
    let metric = c.at.ensures c.args.of.ends.now all has known in
    let counts = c.contains.ensures ∙ c.in_ok-routers.ensures end.router in
    compared_step c.args.lsas.now all c.args.of.links.now c.args.of.costs.now c.args.of.ends.now c.loop-link.link no_end _ c.loop-link.interfaces.items _ _
    c.loop-link-test.true c.in_ok-push.ensures.items
    (λ i. record { router = c.router_of.ensures i; link = c.loop-link.link; cost = c.cost_at.ensures i; counts = counts i; metric = metric i })
    (c.loop-link.invariant all has)
