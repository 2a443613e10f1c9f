use Rattle.change_commands.proofs.WantedMoveLaws.{router_more}
use Rattle.change_commands.proofs.wanted_moves.steps_by_router.Goals as goal

pub loop-router-preserved : goal.loop-router-preserved
loop-router-preserved c =
    router_more c.args.names.now.links c.args.moved.now c.loop-router.router c.in_ok-links.links.items c.loop-router.steps.items
    c.push_links.new.steps.items c.in_ok-links.ensures c.in_ok-push_links.ensures c.loop-router.invariant
