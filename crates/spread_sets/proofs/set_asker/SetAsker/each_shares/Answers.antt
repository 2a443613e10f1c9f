use Rattle.std.proofs.Common.{rules, ◌≡◌, ◌<◌, ◌∙◌, ℕ, refl, sym, ap, subst, List, length, slice_index, arith, false}
use Rattle.std.specs.Prelude.{IsTrue}
use Rattle.rival_separation.specs.Askers.{IsShared}
use Rattle.spread_sets.specs.declared.member_sets.MemberSet.{MemberSet}
use Rattle.spread_sets.specs.SetAskers.{IsAskerOfSets, SetAsking, member_set_at}
use Rattle.spread_sets.specs.Sources.{AreOutsidersDear}
use Rattle.spread_sets.specs.Spreads.{AreTied, Shares}
use Rattle.spread_sets.proofs.SetAskerLaws.{more_shares, one_shares_not, order_shares}
use Rattle.spread_sets.proofs.set_asker.SetAsker.each_shares.Goals as goal

pub returns-then-not-cost_the_same-clause-answer : goal.returns-then-not-cost_the_same-clause-answer
returns-then-not-cost_the_same-clause-answer c =
    let p = c.args.problem.now in
    let point = c.args.point.now in
    let sets = c.args.sets.now in
    let order = c.args.self.now.order in
    let place = c.loop-place.place in
    let inside : place < length order = omega (arith, c.places-place-end.ensures, c.loop-place-test.true) in
    let here : c.set_at-set.result.now ≡ member_set_at sets (slice_index order place) = c.set_at-set.ensures
    ∙ ap (λ (o : List ℕ). member_set_at sets (slice_index o place)) c.loop-place.invariant.order in
    let untied : AreTied p point c.set_at-set.result.now.members → ⊥ = search rules in
    let not : Shares p point (member_set_at sets (slice_index order place)).members → ⊥ =
    λ shares. untied (subst (λ (m : MemberSet). AreTied p point m.members) (sym here) shares.tied) in
    let none : IsTrue false → ⊥ = λ is. cc is in (
      λ is. absurd (none is),
      λ each. absurd (one_shares_not p point sets (slice_index order place) (c.requires.asker.known place 0 inside) not each),
    )

pub returns-then-not-leads_at-clause-answer : goal.returns-then-not-leads_at-clause-answer
returns-then-not-leads_at-clause-answer c =
    let p = c.args.problem.now in
    let point = c.args.point.now in
    let sets = c.args.sets.now in
    let order = c.args.self.now.order in
    let place = c.loop-place.place in
    let inside : place < length order = omega (arith, c.places-place-end.ensures, c.loop-place-test.true) in
    let same : c.prepare-ready.new.self.order ≡ order = ap (λ (a : SetAsking). a.order) c.prepare-ready.ensures.same ∙ c.loop-place.invariant.order in
    let led = subst (λ (o : List ℕ). AreOutsidersDear p point (member_set_at sets (slice_index o place)).members → ⊥) same
    c.if-not-leads_at.ensures.answer in
    let not : Shares p point (member_set_at sets (slice_index order place)).members → ⊥ = λ shares. led shares.dearer in
    let none : IsTrue false → ⊥ = λ is. cc is in (
      λ is. absurd (none is),
      λ each. absurd (one_shares_not p point sets (slice_index order place) (c.requires.asker.known place 0 inside) not each),
    )

pub loop-place-preserved : goal.loop-place-preserved
loop-place-preserved c =
    let p = c.args.problem.now in
    let point = c.args.point.now in
    let sets = c.args.sets.now in
    let order = c.args.self.now.order in
    let place = c.loop-place.place in
    let is = c.loop-place.invariant in
    let same : c.prepare-ready.new.self.order ≡ order = ap (λ (a : SetAsking). a.order) c.prepare-ready.ensures.same ∙ is.order in
    let here : c.set_at-set.result.now ≡ member_set_at sets (slice_index order place) = c.set_at-set.ensures
    ∙ ap (λ (o : List ℕ). member_set_at sets (slice_index o place)) is.order in
    let tied : AreTied p point c.set_at-set.result.now.members = search rules in
    record {
      asker = subst (IsAskerOfSets p sets) (sym c.leads_at.ensures.same) c.prepare-ready.ensures.asker;
      order = ap (λ (a : SetAsking). a.order) c.leads_at.ensures.same ∙ same;
      shared = subst (λ (a : SetAsking). IsShared p.graph point a.room c.prepare-ready.result) (sym c.leads_at.ensures.same)
          c.prepare-ready.ensures.ready.shares;
      shares = more_shares p point sets order place is.shares (record {
        tied = subst (λ (m : MemberSet). AreTied p point m.members) here tied;
        dearer = subst (λ (o : List ℕ). AreOutsidersDear p point (member_set_at sets (slice_index o place)).members) same
            c.if-not-leads_at.ensures.answer;
      });
    }

pub returns-clause-answer : goal.returns-clause-answer
returns-clause-answer c = (
  λ is. order_shares c.args.problem.now c.args.point.now c.args.sets.now c.args.self.now.order c.loop-place.place
      c.requires.asker.each (let count = c.places-place-end.ensures in let past = c.loop-place-test.false in
      omega arith) c.loop-place.invariant.shares,
  λ each. refl,
)
