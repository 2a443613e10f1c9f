use Rattle.std.proofs.Common.{◌∙◌, ℕ, List, Vec, Global, ap, arith, length, subst, sym}
use Rattle.std.proofs.lemmas.List.{length_push}
use Rattle.area_graph.specs.Area.{Area}
use Rattle.area_graph.specs.declared.Point.{Point}
use Rattle.area_graph.specs.Costs.{at_costs}
use Rattle.spf_ties.specs.Distances.{Findings, IsRoomFor}
use Rattle.change_steps.specs.Reaches.{AreLeastToEach, AreLeastTo, least_costs}
use Rattle.change_steps.proofs.ReachLaws.{at_least_more, least_none, least_point_fits}
use Rattle.change_steps.proofs.reach.least_to_each.Goals as goal
use Rattle.change_steps.proofs.reach.least_to_each.Goals.{then-asked-target+in_ok-row+in_ok-push, else-asked-target+in_ok-push-2}

pub least_to-requires-clause-fits : goal.least_to-requires-clause-fits
least_to-requires-clause-fits c =
    least_point_fits c.args.rollout.now c.graph-graph.result.now c.in_ok-point.point c.keeps_conditions.ensures c.graph-graph.ensures c.in_ok-point.ensures

pub loop-target-preserved : goal.loop-target-preserved
loop-target-preserved c =
    let r = c.args.rollout.now in
    let n = c.loop-target.target in
    elim c.if-asked-target.branch [
      | then-asked-target+in_ok-row+in_ok-push w ↦
          let is = ap (λ (v : Vec (List ℕ) Global). v.items) w.least-is ∙ w.in_ok-push.ensures.items in
          record {
            room = subst (λ (f : Findings). IsRoomFor r.graph f) (sym w.room-is)
                (subst (λ (g : Area). IsRoomFor g w.least_to.new.room) c.graph-graph.ensures w.in_ok-row.ensures.room);
            count = let longer = ap (λ (xs : List (List ℕ)). length xs) is ∙ length_push c.loop-target.least.items w.from_items.result in
                let count = c.loop-target.invariant.count in omega (arith, longer, count);
            least = subst (λ (xs : List (List ℕ)). AreLeastToEach r.graph (at_costs (least_costs r.moves)) xs) (sym is)
                (at_least_more r.graph (at_costs (least_costs r.moves)) n c.loop-target.least.items w.from_items.result c.loop-target.invariant.count
                c.loop-target.invariant.least
                (subst (λ (row : List ℕ). AreLeastTo r.graph (at_costs (least_costs r.moves)) n row) (sym w.from_items.ensures)
                (subst (λ (g : Area). AreLeastTo g (at_costs (least_costs r.moves)) n w.in_ok-row.row.items) c.graph-graph.ensures
                (subst (λ (p : Point). AreLeastTo c.graph-graph.result.now p n w.in_ok-row.row.items) c.in_ok-point.ensures w.in_ok-row.ensures.least))));
          }
      | else-asked-target+in_ok-push-2 w ↦
          let is = ap (λ (v : Vec (List ℕ) Global). v.items) w.least-is ∙ w.in_ok-push-2.ensures.items in
          record {
            room = subst (λ (f : Findings). IsRoomFor r.graph f) (sym w.room-is) c.loop-target.invariant.room;
            count = let longer = ap (λ (xs : List (List ℕ)). length xs) is ∙ length_push c.loop-target.least.items w.new.result in
                let count = c.loop-target.invariant.count in omega (arith, longer, count);
            least = subst (λ (xs : List (List ℕ)). AreLeastToEach r.graph (at_costs (least_costs r.moves)) xs) (sym is)
                (at_least_more r.graph (at_costs (least_costs r.moves)) n c.loop-target.least.items w.new.result c.loop-target.invariant.count
                c.loop-target.invariant.least
                (subst (λ (row : List ℕ). AreLeastTo r.graph (at_costs (least_costs r.moves)) n row) (sym w.new.ensures)
                (least_none r.graph (at_costs (least_costs r.moves)) n)));
          }
    ]
