use Rattle.std.proofs.Common.{rules, ◌≡◌, sym, subst}
use Rattle.area_graph.specs.Area.{Area}
use Rattle.spf_ties.specs.Distances.{IsRoomFor}
use Rattle.spread_sets.specs.SetAskers.{IsAskerOfSets, SetAsking}
use Rattle.spread_sets.proofs.set_asker.SetAsker.prepare.Goals as goal

pub returns-clause-asker : goal.returns-clause-asker
returns-clause-asker c =
    let old = subst (λ (a : SetAsking). IsAskerOfSets c.args.survey.now.problem.now c.args.survey.now.sets.now a) (sym c.self.view_is) c.requires.asker in
    let same : c.prepare.ensures.0.graph.now ≡ c.args.survey.now.problem.now.graph = search rules in
    record {
      room = subst (λ (g : Area). IsRoomFor g c.prepare.new.room) same c.prepare.ensures.2.room_for;
      trees = old.trees;
      known = old.known;
      each = old.each;
    }
