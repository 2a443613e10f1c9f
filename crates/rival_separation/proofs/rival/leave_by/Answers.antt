use Rattle.std.proofs.Common.{◌∷◌, [], ◌++◌, sym, subst}
use Rattle.area_graph.specs.declared.Edge.{Edge}
use Rattle.area_graph.specs.Area.{edge_at}
use Rattle.design_problem.specs.Problems.{request_ends}
use Rattle.spf_ties.specs.Distances.{Findings}
use Rattle.rival_separation.specs.Rivals.{HasWay, IsFollowedByLeast}
use Rattle.rival_separation.proofs.RivalLemmas.{found_kept, way_short}
use Rattle.rival_separation.proofs.rival.leave_by.Goals as goal

pub add_to_path-requires : goal.add_to_path-requires
add_to_path-requires c =
    way_short c.args.outlook.now.graph.now c.args.outlook.now.point.now (request_ends c.args.outlook.now.request.now) c.requires.found.0 c.args.room.now
    c.args.edge c.keeps_conditions.ensures.fits c.requires.found.1 c.requires.known c.requires.way

pub follow-requires-clause-found : goal.follow-requires-clause-found
follow-requires-clause-found c =
    let room : Findings = c.args.room.now in
    let limit = c.requires.found.0 in (
      limit,
      found_kept c.args.outlook.now.graph.now c.args.outlook.now.point.now (request_ends c.args.outlook.now.request.now) limit room
          (room.path ++ c.args.edge ∷ [])
          c.add_to_path.new.self c.add_to_path.ensures c.requires.found.1,
    )

pub follow-requires-clause-way : goal.follow-requires-clause-way
follow-requires-clause-way c =
    let g = c.args.outlook.now.graph.now in
    let p = c.args.outlook.now.point.now in
    let ends = request_ends c.args.outlook.now.request.now in
    subst (λ (edge : Edge). HasWay g p ends c.add_to_path.new.self edge.to) (sym c.edge_of.ensures)
    (subst (λ (r : Findings). HasWay g p ends r (edge_at g c.args.edge).to) (sym c.add_to_path.ensures) c.requires.way)

pub returns-clause-followed : goal.returns-clause-followed
returns-clause-followed c =
    let g = c.args.outlook.now.graph.now in
    let p = c.args.outlook.now.point.now in
    let ends = request_ends c.args.outlook.now.request.now in
    subst (λ (r : Findings). IsFollowedByLeast g p ends r (edge_at g c.args.edge).to c.follow.new.room.path) c.add_to_path.ensures
    (subst (λ (edge : Edge). IsFollowedByLeast g p ends c.add_to_path.new.self edge.to c.follow.new.room.path) c.edge_of.ensures c.follow.ensures.followed)
