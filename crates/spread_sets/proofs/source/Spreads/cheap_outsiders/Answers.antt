use Rattle.std.proofs.Common.{List, All, sym, subst}
use Rattle.std.proofs.lemmas.Result.{IfOk-weaker}
use Rattle.spread_sets.specs.declared.member_sets.MemberSet.{MemberSet}
use Rattle.spread_sets.specs.MemberSets.{sets_in}
use Rattle.spread_sets.specs.SetAskers.{AreOutsidersIfAny}
use Rattle.spread_sets.specs.Sources.{KnownSets}
use Rattle.spread_sets.specs.Spreads.{AreTied}
use Rattle.spread_sets.proofs.SetAskerLaws.{each_tied}
use Rattle.spread_sets.proofs.source.Spreads.cheap_outsiders.Goals as goal

pub cheap_outsiders-requires-clause-tied : goal.cheap_outsiders-requires-clause-tied
cheap_outsiders-requires-clause-tied g c =
    each_tied c.self.inside.problem.now c.args.point.now c.deref.result.now
    (subst (λ (sets : List MemberSet). All (AreTied c.self.inside.problem.now c.args.point.now) (sets_in sets)) (sym c.deref.ensures.value)
    (subst (λ (s : KnownSets). All (AreTied s.problem c.args.point.now) s.sets) (sym c.self.view_is) c.requires.tied))

pub returns-clause-told : goal.returns-clause-told
returns-clause-told g c =
    IfOk-weaker c.cheap_outsiders.result _ _
    (λ outsiders told. subst (λ (s : KnownSets). AreOutsidersIfAny s.problem c.args.point.now s.sets outsiders.items) c.self.view_is
    (subst (λ (sets : List MemberSet). AreOutsidersIfAny c.self.inside.problem.now c.args.point.now (sets_in sets) outsiders.items) c.deref.ensures.value told))
    c.cheap_outsiders.ensures.outsiders
