-- The next edge stands behind the others where it is of one of the links.
use Rattle.std.proofs.Common.{◌∙◌, ap, Bool, [], ◌∷◌, ◌++◌, cond}
use Rattle.std.specs.Prelude.{slice_get}
use Rattle.std.specs.List.{list_any}
use Rattle.cost_base.proofs.ListLemmas.{filter-numbers_from-push}
use Rattle.wanted_paths.specs.Paths.{link_excludes}
use Rattle.path_commands.proofs.link_edges.edges_of_links.Goals as goal

pub loop-edge-preserved : goal.loop-edge-preserved
loop-edge-preserved c =
    let d = c.args.lsdb.now in
    filter-numbers_from-push (λ e. list_any (λ l. link_excludes d c.args.graph.now l (slice_get d.links l) e) c.args.links.now) c.loop-edge.edge
    c.loop-edge.edges.items c.push_if.new.things.items c.loop-edge.invariant
    (c.in_ok-push_if.ensures ∙ ap (λ (b : Bool). cond b (c.loop-edge.edges.items ++ c.loop-edge.edge ∷ []) c.loop-edge.edges.items) c.is_of_any_link.ensures)
