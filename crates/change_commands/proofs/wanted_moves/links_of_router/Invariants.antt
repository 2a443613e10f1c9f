-- the router's links so far, and those that are left
use Rattle.std.proofs.Common.{◌≡◌, ◌++◌, drop}
use Rattle.change_commands.specs.WantedMoves.{links_of_router}
use Rattle.change_commands.proofs.wanted_moves.links_of_router.Given as goal

abbrev pub invariant-loop-link : goal.invariant-loop-link
invariant-loop-link l =
    l.links.items ++ links_of_router l.names.links (drop l.link-index l.moved) l.router ≡ links_of_router l.names.links l.moved l.router
