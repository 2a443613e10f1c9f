use Rattle.std.proofs.Common.{rules, ◌∷◌, [], ◌++◌, ◌<◌, ◌∙◌, ap, refl, sym, subst, arith, ℕ, List, length, length-append}
use Rattle.design_problem.specs.Problems.{request_ends}
use Rattle.spf_ties.specs.Distances.{Findings}
use Rattle.area_graph.specs.Area.{edge_at}
use Rattle.area_graph.specs.declared.Edge.{Edge}
use Rattle.rival_separation.specs.Rivals.{Completes}
use Rattle.rival_separation.proofs.RivalLemmas.{IsWay, completed, completes_kept, completes_more, found_kept, other_path, short_walk, some_next, way_completes}
use Rattle.rival_separation.proofs.rival.follow.Goals.{After-next_edge}
use Rattle.rival_separation.proofs.rival.follow.Goals as goal

pub loop-at-init : goal.loop-at-init
loop-at-init c = record {
  found = c.requires.found;
  so_far = way_completes c.args.outlook.now.graph.now c.args.outlook.now.point.now (request_ends c.args.outlook.now.request.now) c.args.room.now c.args.start
      c.requires.way;
  same = refl;
}

-- what was gone so far is shorter than the vertices are many
short : (c : After-next_edge) → length c.loop-at.room.path < length c.args.outlook.now.graph.now.vertices
short c =
    let g = c.args.outlook.now.graph.now in
    let p = c.args.outlook.now.point.now in
    let ends = request_ends c.args.outlook.now.request.now in
    short_walk g p ends c.loop-at.invariant.found.0 c.loop-at.room (IsWay g p ends c.args.room.now c.args.start)
    c.loop-at.room.path c.loop-at.at c.loop-at.invariant.found.1 c.loop-at.invariant.so_far (λ es whole. whole.1)

pub add_to_path-requires : goal.add_to_path-requires
add_to_path-requires c =
    let count = c.loop-at.invariant.found.1.room_for.vertices in
    omega (arith, short (goal.at.add_to_path-requires c).After-next_edge)

pub loop-at-smaller : goal.loop-at-smaller
loop-at-smaller c =
    let count = c.loop-at.invariant.found.1.room_for.vertices in
    let same = ap (λ (r : Findings). length r.costs) c.add_to_path.ensures in
    let longer = ap (λ (r : Findings). length r.path) c.add_to_path.ensures ∙ length-append c.loop-at.room.path (c.in-Some.edge ∷ []) in
    omega (arith, short (goal.at.loop-at-smaller c).After-next_edge)

pub loop-at-preserved : goal.loop-at-preserved
loop-at-preserved c =
    let g = c.args.outlook.now.graph.now in
    let p = c.args.outlook.now.point.now in
    let ends = request_ends c.args.outlook.now.request.now in
    let room = c.loop-at.room in
    let edge = c.in-Some.edge in
    let next = c.in-Some.ensures in
    let longer = room.path ++ edge ∷ [] in
    let Holds : List ℕ → Type 0 = IsWay g p ends c.args.room.now c.args.start in
    let left = (c.loop-at.invariant.found.1.marks edge (let known = next.known in let count =
    c.loop-at.invariant.found.1.room_for.edges in omega arith)).0 next.left in
    let more = completes_more g p ends c.loop-at.invariant.found.0 room (IsWay g p ends c.args.room.now c.args.start)
    room.path c.loop-at.at edge c.keeps_conditions.ensures.fits c.requires.fits c.loop-at.invariant.found.1
    c.loop-at.invariant.so_far next.known next.from next.tight left in
    record {
      found = (
        c.loop-at.invariant.found.0,
        found_kept g p ends c.loop-at.invariant.found.0 room longer c.add_to_path.new.self c.add_to_path.ensures c.loop-at.invariant.found.1,
      );
      so_far = subst (λ (e : Edge). Completes g p ends c.add_to_path.new.self Holds c.add_to_path.new.self.path e.to) (sym c.edge_of-at.ensures)
          (subst (λ (r : Findings). Completes g p ends r Holds r.path (edge_at g edge).to) (sym c.add_to_path.ensures)
          (completes_kept g p ends room Holds longer longer (edge_at g edge).to more));
      same = other_path c.args.room.now room c.add_to_path.new.self longer c.loop-at.invariant.same c.add_to_path.ensures;
    }

pub returns-clause-followed : goal.returns-clause-followed
returns-clause-followed c =
    (completed c.args.outlook.now.graph.now c.args.outlook.now.point.now (request_ends c.args.outlook.now.request.now) c.loop-at.invariant.found.0
    c.loop-at.room
    (IsWay c.args.outlook.now.graph.now c.args.outlook.now.point.now (request_ends c.args.outlook.now.request.now) c.args.room.now c.args.start)
    c.loop-at.room.path c.loop-at.at c.loop-at.invariant.found.1 c.loop-at.invariant.so_far (search rules)).0

pub returns-in-None-clause-followed : goal.returns-in-None-clause-followed
returns-in-None-clause-followed c =
    absurd (some_next c.args.outlook.now.graph.now c.args.outlook.now.point.now (request_ends c.args.outlook.now.request.now) c.loop-at.invariant.found.0
    c.loop-at.room (IsWay c.args.outlook.now.graph.now c.args.outlook.now.point.now (request_ends c.args.outlook.now.request.now) c.args.room.now
    c.args.start) c.loop-at.room.path c.loop-at.at c.loop-at.invariant.found.1 c.loop-at.invariant.so_far
    (search rules) c.in-None.ensures)
