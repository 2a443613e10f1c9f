use Rattle.std.proofs.Common.{◌∷◌, [], ◌++◌, ap, sym, subst, arith, ℕ, List, take}
use Rattle.area_graph.specs.Area.{edge_at}
use Rattle.design_problem.specs.Problems.{request_ends}
use Rattle.design_problem.proofs.PathBounds.{simple-short}
use Rattle.spf_ties.specs.Distances.{Findings}
use Rattle.rival_separation.specs.Rivals.{HasWay, IsFollowedByLeast, with_edge}
use Rattle.rival_separation.proofs.RivalLemmas.{followed_cheapest, found_kept, take_short, way_from}
use Rattle.rival_separation.proofs.rival.lay_out.Goals as goal

pub put_front-requires : goal.put_front-requires
put_front-requires c =
    let ends = request_ends c.args.outlook.now.request.now in
    let short = simple-short c.args.outlook.now.graph.now ends.start c.args.outlook.now.request.now.path.edges ends.end c.keeps_conditions.ensures.fits
    c.requires.path.simple in
    let within = c.requires.best.0.within in
    let front = take_short c.args.best.place c.as_slice.result.now in
    let count = c.requires.found.found.room_for.vertices in
    omega arith

pub leave_by-requires-clause-known : goal.leave_by-requires-clause-known
leave_by-requires-clause-known c = c.requires.best.0.known

pub leave_by-requires-clause-found : goal.leave_by-requires-clause-found
leave_by-requires-clause-found c =
    let limit = c.requires.found.limit in (
      limit,
      found_kept c.args.outlook.now.graph.now c.args.outlook.now.point.now (request_ends c.args.outlook.now.request.now) limit c.args.room.now
          (take c.args.best.place c.as_slice.result.now) c.put_front.new.room c.put_front.ensures c.requires.found.found,
    )

pub leave_by-requires-clause-way : goal.leave_by-requires-clause-way
leave_by-requires-clause-way c =
    let g = c.args.outlook.now.graph.now in
    let p = c.args.outlook.now.point.now in
    let ends = request_ends c.args.outlook.now.request.now in
    let wanted = c.args.outlook.now.request.now.path.edges in
    let room : Findings = c.args.room.now in
    let e = c.args.best.edge in
    let place = c.args.best.place in
    let walk = take place c.as_slice.result.now ++ e ∷ [] in
    subst (λ (r : Findings). HasWay g p ends (with_edge r e) (edge_at g e).to) (sym c.put_front.ensures)
    (way_from g p ends c.requires.found.limit room wanted walk place e c.args.best.cost c.keeps_conditions.ensures.fits
    c.requires.fits c.requires.found.found c.requires.path c.requires.best.0
    (λ k i other deviation. c.requires.best.1 k i other deviation.within deviation) c.requires.cheap c.requires.found.above
    (ap (λ (es : List ℕ). take place es ++ e ∷ []) c.as_slice.ensures))

pub returns-clause-cheapest : goal.returns-clause-cheapest
returns-clause-cheapest c =
    let g = c.args.outlook.now.graph.now in
    let p = c.args.outlook.now.point.now in
    let ends = request_ends c.args.outlook.now.request.now in
    let wanted = c.args.outlook.now.request.now.path.edges in
    let room : Findings = c.args.room.now in
    let e = c.args.best.edge in
    let place = c.args.best.place in
    let walk = take place c.as_slice.result.now ++ e ∷ [] in
    let followed = subst (λ (r : Findings).
    IsFollowedByLeast g p ends (with_edge r e) (edge_at g e).to c.leave_by.new.room.path) c.put_front.ensures
    c.leave_by.ensures.followed in
    followed_cheapest g p ends c.requires.found.limit room wanted walk c.leave_by.new.room.path place e c.args.best.cost
    c.keeps_conditions.ensures.fits c.requires.fits c.requires.found.found c.requires.path c.requires.best.0
    (λ k i other deviation. c.requires.best.1 k i other deviation.within deviation) c.requires.cheap c.requires.found.above
    (ap (λ (es : List ℕ). take place es ++ e ∷ []) c.as_slice.ensures) followed
