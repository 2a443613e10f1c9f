use Rattle.std.proofs.Common.{◌∙◌, ap, sym, subst}
use Rattle.area_graph.specs.Area.{edge_at}
use Rattle.area_graph.specs.Costs.{cost}
use Rattle.design_problem.specs.Problems.{request_ends}
use Rattle.spf_ties.specs.Distances.{Findings}
use Rattle.rival_separation.specs.Rivals.{HasWay, IsFollowedByLeast, with_edge}
use Rattle.rival_separation.proofs.RivalLemmas.{found_kept}
use Rattle.set_separation.specs.PrefixTrees.{prefix_of_place}
use Rattle.set_separation.proofs.DeviationLemmas.{followed_cheapest, way_on}
use Rattle.set_separation.proofs.outsider.lay_out.Goals as goal

pub leave_by-requires-clause-known : goal.leave_by-requires-clause-known
leave_by-requires-clause-known c = c.requires.best.0.known

pub leave_by-requires-clause-found : goal.leave_by-requires-clause-found
leave_by-requires-clause-found c =
    let wanted = c.requires.tree.0 in
    let grown = c.requires.tree.1.tree.grown in
    let limit = c.requires.found.limit in (
      limit,
      found_kept c.args.outlook.now.graph.now c.args.outlook.now.point.now (request_ends c.args.outlook.now.request.now) limit c.args.room.now
          (prefix_of_place grown.prefixes c.args.best.place) c.put_prefix.new.room (c.put_prefix.ensures wanted wanted grown) c.requires.found.found,
    )

pub leave_by-requires-clause-way : goal.leave_by-requires-clause-way
leave_by-requires-clause-way c =
    let g = c.args.outlook.now.graph.now in
    let p = c.args.outlook.now.point.now in
    let ends = request_ends c.args.outlook.now.request.now in
    let room : Findings = c.args.room.now in
    let wanted = c.requires.tree.0 in
    let tied = c.requires.tree.1 in
    let e = c.args.best.edge in
    subst (λ (r : Findings). HasWay g p ends (with_edge r e) (edge_at g e).to) (sym (c.put_prefix.ensures wanted wanted tied.tree.grown))
    (way_on g p ends c.requires.found.limit room wanted c.args.costed.now.tree.now c.args.costed.now.costs.now c.keeps_conditions.ensures.fits
    c.requires.found.found tied.tree c.requires.costs (cost g p c.args.outlook.now.request.now.path.edges) c.args.best.place e
    c.args.best.cost c.requires.fits tied.tied c.requires.best.0
    (λ k i other deviates. c.requires.best.1 k i other deviates.within deviates) c.requires.cheap
    c.requires.found.above)

pub returns-clause-cheapest : goal.returns-clause-cheapest
returns-clause-cheapest c = λ wanted tied.
    let g = c.args.outlook.now.graph.now in
    let p = c.args.outlook.now.point.now in
    let ends = request_ends c.args.outlook.now.request.now in
    let room : Findings = c.args.room.now in
    let e = c.args.best.edge in
    let followed = subst (λ (r : Findings).
    IsFollowedByLeast g p ends (with_edge r e) (edge_at g e).to c.leave_by.new.room.path)
    (c.put_prefix.ensures wanted wanted tied.tree.grown) c.leave_by.ensures.followed in
    followed_cheapest g p ends c.requires.found.limit room wanted c.args.costed.now.tree.now c.args.costed.now.costs.now
    c.keeps_conditions.ensures.fits c.requires.found.found tied.tree c.requires.costs
    (cost g p c.args.outlook.now.request.now.path.edges) c.args.best.place e c.args.best.cost c.requires.fits tied.tied
    c.requires.best.0 (λ k i other deviates. c.requires.best.1 k i other deviates.within deviates) c.requires.cheap
    c.requires.found.above
    c.leave_by.new.room.path followed

pub returns-clause-same : goal.returns-clause-same
returns-clause-same c =
    let wanted = c.requires.tree.0 in
    let grown = c.requires.tree.1.tree.grown in
    c.leave_by.ensures.same
    ∙ ap (λ (r : Findings). let moved : Findings = record r { path = c.leave_by.new.room.path } in moved)
    (c.put_prefix.ensures wanted wanted grown)
