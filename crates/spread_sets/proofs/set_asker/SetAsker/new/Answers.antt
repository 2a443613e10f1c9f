use Rattle.std.proofs.Common.{rules, ◌≡◌, ap, length}
use Rattle.design_problem.specs.Problems.{DesignProblem}
use Rattle.spread_sets.proofs.Separations.{ready_all, room_new}
use Rattle.spread_sets.proofs.set_asker.SetAsker.new.Goals as goal

pub returns : goal.returns
returns c =
    let count : length c.in_ok-costs.costs.items ≡ c.most_places-places.result = search rules in
    record {
      room = room_new c.args.problem.now.graph _ c.in_ok-room.room (ap (λ (q : DesignProblem). q.graph) c.problem.view_is) c.in_ok-room.ensures;
      trees = ready_all c.args.problem.now c.most_places-places.result (length c.in_ok-costs.costs.items) c.args.sets.now count c.requires (search rules);
      known = c.in_ok-order.ensures.known;
      each = c.in_ok-order.ensures.each;
    }
