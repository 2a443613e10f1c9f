use Rattle.std.proofs.Common.{subst}
use Rattle.spread_sets.specs.MemberSets.{AreMemberSets}
use Rattle.spread_sets.specs.Sources.{KnownSets}
use Rattle.spread_sets.proofs.Separations.{sets_kept}
use Rattle.spread_sets.proofs.source.Spreads.keeps.Goals as goal

pub returns-clause-sets : goal.returns-clause-sets
returns-clause-sets g c = subst (λ (s : KnownSets). AreMemberSets s.problem s.sets) c.self.view_is
    (sets_kept c.self.inside.problem.now c.self.inside.asker.places c.self.inside.sets.items
    c.self.invariant.asker.trees)
