use Rattle.std.proofs.Common.{◌↔◌, List, subst}
use Rattle.std.specs.Prelude.{IsTrue}
use Rattle.spread_sets.specs.declared.member_sets.MemberSet.{MemberSet}
use Rattle.spread_sets.specs.MemberSets.{sets_in}
use Rattle.spread_sets.specs.Sources.{KnownSets}
use Rattle.spread_sets.specs.Spreads.{SharesEach}
use Rattle.spread_sets.proofs.source.Spreads.shares_each.Goals as goal

pub returns-clause-answer : goal.returns-clause-answer
returns-clause-answer g c =
    subst (λ (s : KnownSets). IsTrue c.each_shares.result ↔ SharesEach s.problem s.sets c.args.point.now) c.self.view_is
    (subst (λ (sets : List MemberSet). IsTrue c.each_shares.result ↔ SharesEach c.self.inside.problem.now (sets_in sets) c.args.point.now)
    c.deref.ensures.value c.each_shares.ensures.answer)
