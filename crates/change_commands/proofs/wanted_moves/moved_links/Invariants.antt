-- the links so far that get another cost
use Rattle.std.proofs.Common.{◌≡◌}
use Rattle.std.specs.List.{filter}
use Rattle.cost_base.specs.Lists.{numbers_from}
use Rattle.change_commands.specs.WantedMoves.{is_moved}
use Rattle.change_commands.proofs.wanted_moves.moved_links.Given as goal

abbrev pub invariant-loop-link : goal.invariant-loop-link
invariant-loop-link l = l.moved.items ≡ filter (is_moved l.present l.wanted) (numbers_from 0 l.link)
