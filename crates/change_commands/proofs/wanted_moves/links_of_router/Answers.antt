use Rattle.std.proofs.Common.{refl}
use Rattle.change_commands.proofs.WantedMoveLaws.{router_link_more}
use Rattle.change_commands.proofs.wanted_moves.links_of_router.Goals as goal

pub loop-link-preserved : goal.loop-link-preserved
loop-link-preserved c =
    router_link_more c.args.names.now.links c.args.moved.now c.args.router c.loop-link.link-index _ c.router_of.result c.loop-link.links.items
    c.push_if.new.things.items _ c.loop-link-test.true refl c.router_of.ensures c.in_ok-push_if.ensures c.loop-link.invariant
