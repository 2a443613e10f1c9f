use Rattle.std.proofs.Common.{◌∙◌, ◌<◌, List, ℕ, [], sym, ap, subst, length, IfOk}
use Rattle.area_graph.specs.Area.{Area}
use Rattle.area_graph.specs.Costs.{FitsPoint, at_costs}
use Rattle.lsa_bytes.specs.declared.Lsa.{Lsa}
use Rattle.lsa_bytes.specs.AreaGraphs.{lsa_graph}
use Rattle.lsa_bytes.proofs.GraphFits.{database_few}
use Rattle.database_commands.specs.Found.{EndsBy}
use Rattle.database_commands.specs.Routes.{vertex_ids, vertex_of_router}
use Rattle.database_commands.proofs.Routes.{point_fits, vertex_within}
use Rattle.database_commands.proofs.route.routed_end.Goals as goal

pub vertex_of-start-requires : goal.vertex_of-start-requires
vertex_of-start-requires c = rw c.as_slice-lsas.ensures.items (database_few c.args.database.now c.as_slice-lsas.ensures.kept)

pub vertex_of-end-requires : goal.vertex_of-end-requires
vertex_of-end-requires c = rw c.as_slice-lsas.ensures.items (database_few c.args.database.now c.as_slice-lsas.ensures.kept)

pub route_end-requires-clause-fits : goal.route_end-requires-clause-fits
route_end-requires-clause-fits c = subst (λ (g : Area). FitsPoint g (at_costs [])) (sym c.in_ok-graph.ensures) (point_fits c.args.database.now)

pub route_end-requires-clause-start : goal.route_end-requires-clause-start
route_end-requires-clause-start c =
    subst (λ (g : Area). c.vertex_of-start.result < length g.vertices) (sym c.in_ok-graph.ensures)
    (subst (λ v. v < length (lsa_graph c.args.database.now).vertices)
    (sym (c.vertex_of-start.ensures
    ∙ ap (λ (ls : List Lsa). vertex_of_router ls c.args.from) c.as_slice-lsas.ensures.items))
    (vertex_within c.args.database.now c.args.from c.requires.from))

pub route_end-requires-clause-end : goal.route_end-requires-clause-end
route_end-requires-clause-end c =
    subst (λ (g : Area). c.vertex_of-end.result < length g.vertices) (sym c.in_ok-graph.ensures)
    (subst (λ v. v < length (lsa_graph c.args.database.now).vertices)
    (sym (c.vertex_of-end.ensures ∙ ap (λ (ls : List Lsa). vertex_of_router ls c.args.to) c.as_slice-lsas.ensures.items))
    (vertex_within c.args.database.now c.args.to c.requires.to))

pub returns : goal.returns
returns c =
    let lsas = c.args.database.now in
    let from = vertex_of_router lsas c.args.from in
    let to = vertex_of_router lsas c.args.to in
    subst (λ (g : Area). IfOk c.route_end.result (λ words. EndsBy g (vertex_ids lsas) from to words)) c.in_ok-graph.ensures
    (subst (λ (ids : List ℕ). IfOk c.route_end.result (λ words. EndsBy c.in_ok-graph.graph ids from to words))
    (c.deref.ensures.value ∙ c.in_ok-ids.ensures ∙ ap vertex_ids c.as_slice-lsas.ensures.items)
    (subst (λ v. IfOk c.route_end.result (λ words. EndsBy c.in_ok-graph.graph c.deref.result.now v to words))
    (c.vertex_of-start.ensures ∙ ap (λ (ls : List Lsa). vertex_of_router ls c.args.from) c.as_slice-lsas.ensures.items)
    (subst (λ v. IfOk c.route_end.result (λ words. EndsBy c.in_ok-graph.graph c.deref.result.now c.vertex_of-start.result v words))
    (c.vertex_of-end.ensures ∙ ap (λ (ls : List Lsa). vertex_of_router ls c.args.to) c.as_slice-lsas.ensures.items) c.route_end.ensures)))
