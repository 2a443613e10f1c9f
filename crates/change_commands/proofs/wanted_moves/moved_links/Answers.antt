use Rattle.cost_base.proofs.ListLemmas.{filter-numbers_from-push}
use Rattle.change_commands.specs.WantedMoves.{is_moved}
use Rattle.change_commands.proofs.wanted_moves.moved_links.Goals as goal

pub loop-link-preserved : goal.loop-link-preserved
loop-link-preserved c =
    filter-numbers_from-push (is_moved c.args.present.now c.args.wanted.now) c.loop-link.link c.loop-link.moved.items c.push_if.new.things.items
    c.loop-link.invariant c.in_ok-push_if.ensures
