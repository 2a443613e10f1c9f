use Rattle.std.proofs.Common.{◌<◌, ◌∙◌, ap, arith, length, subst, sym}
use Rattle.std.proofs.lemmas.List.{length_push}
use Rattle.spf_ties.specs.Distances.{distance_at}
use Rattle.change_steps.specs.Reaches.{AreLeastTo}
use Rattle.change_steps.proofs.ReachLaws.{least_more, least_none}
use Rattle.change_steps.proofs.reach.least_to.Goals as goal

pub loop-vertex-init : goal.loop-vertex-init
loop-vertex-init c = record {
  count = ap length c.new-least.ensures.items;
  least = subst (AreLeastTo c.args.graph.now c.args.point.now c.args.target) (sym c.new-least.ensures.items)
      (least_none c.args.graph.now c.args.point.now c.args.target);
}

pub distance-requires : goal.distance-requires
distance-requires c =
    let below = c.loop-vertex-test.true in
    let count = ap length c.vertices.ensures in
    let costs = c.distances_to.ensures.room.vertices in
    omega (arith, below, count, costs)

pub returns-in_err-push-clause-room : goal.returns-in_err-push-clause-room
returns-in_err-push-clause-room c = c.distances_to.ensures.room

pub loop-vertex-preserved : goal.loop-vertex-preserved
loop-vertex-preserved c =
    let n = c.loop-vertex.vertex in
    let within : n < length c.args.graph.now.vertices = let below = c.loop-vertex-test.true in let count = ap length c.vertices.ensures in
    omega (arith, below, count) in
    record {
      count = let longer = ap length c.in_ok-push.ensures.items ∙ length_push c.loop-vertex.least.items c.at_most.result in
          let count = c.loop-vertex.invariant.count in omega (arith, longer, count);
      least = subst (AreLeastTo c.args.graph.now c.args.point.now c.args.target) (sym c.in_ok-push.ensures.items)
          (least_more c.args.graph.now c.args.point.now c.args.target c.at_most.result c.loop-vertex.least.items n (distance_at c.distances_to.new.self n)
          c.loop-vertex.invariant.count c.loop-vertex.invariant.least (c.distances_to.ensures.least n within)
          (λ cost is. c.at_most.ensures cost (c.distance.ensures ∙ is)));
    }

pub returns-clause-room : goal.returns-clause-room
returns-clause-room c = c.distances_to.ensures.room

pub returns-clause-least : goal.returns-clause-least
returns-clause-least c = c.loop-vertex.invariant.least
