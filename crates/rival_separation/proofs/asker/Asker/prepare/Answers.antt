use Rattle.std.proofs.Common.{rules, ◌≡◌, sym, subst}
use Rattle.area_graph.specs.Area.{Area}
use Rattle.spf_ties.specs.Distances.{IsRoomFor}
use Rattle.rival_separation.specs.Askers.{Asking, IsAskerFor}
use Rattle.rival_separation.proofs.asker.Asker.prepare.Goals as goal

pub returns-clause-asker : goal.returns-clause-asker
returns-clause-asker c =
    let old = subst (λ (a : Asking). IsAskerFor c.args.survey.now.graph.now c.args.survey.now.requests.now a) (sym c.self.view_is) c.requires.asker in
    let same : c.prepare.ensures.0.graph.now ≡ c.args.survey.now.graph.now = search rules in
    record {
      room = subst (λ (g : Area). IsRoomFor g c.prepare.new.room) same c.prepare.ensures.2.room_for;
      known = old.known;
      each = old.each;
    }
