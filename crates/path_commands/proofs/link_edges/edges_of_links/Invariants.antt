-- the edges so far that are of one of the links
use Rattle.std.proofs.Common.{◌≡◌}
use Rattle.std.specs.Prelude.{slice_get}
use Rattle.std.specs.List.{filter, list_any}
use Rattle.cost_base.specs.Lists.{numbers_from}
use Rattle.wanted_paths.specs.Paths.{link_excludes}
use Rattle.path_commands.proofs.link_edges.edges_of_links.Given as goal

abbrev pub invariant-loop-edge : goal.invariant-loop-edge
invariant-loop-edge l =
    l.edges.items ≡ filter (λ e. list_any (λ k. link_excludes l.lsdb l.graph k (slice_get l.lsdb.links k) e) l.links) (numbers_from 0 l.edge)
