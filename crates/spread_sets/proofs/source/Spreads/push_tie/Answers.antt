use Rattle.std.proofs.Common.{◌<◌, sym, subst, [], length}
use Rattle.std.specs.Prelude.{slice_get}
use Rattle.design_problem.specs.Rows.{IsRouteOf}
use Rattle.spread_sets.specs.Spreads.{edges_of}
use Rattle.spread_sets.specs.Sources.{KnownSets, set_at}
use Rattle.spread_sets.specs.SourceLaws.{member_known}
use Rattle.spread_sets.proofs.Separations.{tie_route}
use Rattle.spread_sets.proofs.source.Spreads.push_tie.Goals as goal

pub form_of_tie-requires-clause-second : goal.form_of_tie-requires-clause-second
form_of_tie-requires-clause-second g c =
    let s = c.args.self.now in
    let set = set_at s.sets c.args.pair.place in
    subst (λ (t : KnownSets). c.args.pair.second < length t.problem.requests) (sym c.self.view_is)
    (member_known s.problem set c.args.pair.second (c.keeps.ensures.sets c.args.pair.place [] c.requires.place)
    c.requires.second)

pub form_of_tie-requires-clause-same_ends : goal.form_of_tie-requires-clause-same_ends
form_of_tie-requires-clause-same_ends g c =
    let s = c.args.self.now in
    let set = set_at s.sets c.args.pair.place in
    subst (λ (t : KnownSets). IsRouteOf t.problem.graph (slice_get t.problem.requests c.args.pair.first) (edges_of t.problem c.args.pair.second))
    (sym c.self.view_is)
    (tie_route s.problem set c.args.pair.first c.args.pair.second c.keeps.ensures.kept.problem
    (c.keeps.ensures.sets c.args.pair.place [] c.requires.place) c.requires.first c.requires.second)
