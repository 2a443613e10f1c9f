use Rattle.std.proofs.Common.{rules, ◌≡◌, ◌<◌, ℕ, List, Option, None, ◌∙◌, ap, sym, subst, inl, inr, get_or, length, slice_index, arith}
use Rattle.std.proofs.lemmas.Bool.{cases_lt}
use Rattle.std.proofs.lemmas.List.{length-set}
use Rattle.rival_separation.proofs.AskerLemmas.{order_reaches, shared_kept, told_there}
use Rattle.spread_sets.specs.SetAskers.{IsOutsiderIfAny, SetAsking, member_set_at, no_member_set}
use Rattle.spread_sets.specs.Spreads.{AreTied}
use Rattle.spread_sets.proofs.SetAskerLaws.{asker_kept, told_of_sets}
use Rattle.spread_sets.proofs.set_asker.SetAsker.cheap_outsiders.Goals as goal

pub outsider_at-requires-clause-tied : goal.outsider_at-requires-clause-tied
outsider_at-requires-clause-tied c =
    let sets = c.args.sets.now in
    let order = c.args.self.now.order in
    let place = c.loop-place.place in
    let inside : place < length order = omega (arith, c.places-place-end.ensures, c.loop-place-test.true) in
    let same : c.prepare-ready.new.self.order ≡ order = ap (λ (a : SetAsking). a.order) c.prepare-ready.ensures.same ∙ c.loop-place.invariant.order in
    subst (λ (o : List ℕ). AreTied c.args.problem.now c.args.point.now (member_set_at sets (slice_index o place)).members) (sym same)
    (c.requires.tied (slice_index order place) no_member_set (c.requires.asker.known place 0 inside))

pub loop-place-preserved : goal.loop-place-preserved
loop-place-preserved c =
    let p = c.args.problem.now in
    let point = c.args.point.now in
    let sets = c.args.sets.now in
    let order = c.args.self.now.order in
    let place = c.loop-place.place in
    let olds = c.loop-place.outsiders.items in
    let number = c.number_at.result in
    let Told : ℕ → Option (List ℕ) → Type 0 = λ k outsider. IsOutsiderIfAny p point (member_set_at sets k).members outsider in
    let same = ap (λ (a : SetAsking). a.order) c.prepare-ready.ensures.same ∙ c.loop-place.invariant.order in
    let still = ap (λ (a : SetAsking). a.order) c.outsider_at.ensures.same ∙ same in
    let here : number ≡ slice_index order place = c.number_at.ensures ∙ ap (λ (ks : List ℕ). slice_index ks place) still in
    record {
      asker = asker_kept p sets c.prepare-ready.new.self c.outsider_at.new.self c.outsider_at.ensures.same c.prepare-ready.ensures.asker;
      order = still;
      shared = shared_kept p.graph point c.prepare-ready.new.self.room c.outsider_at.new.self.room c.prepare-ready.result
          (ap (λ (a : SetAsking). a.room) c.outsider_at.ensures.same) c.prepare-ready.ensures.ready.shares;
      count = ap length c.tell.ensures ∙ length-set olds number c.in_ok-outsider.outsider ∙ c.loop-place.invariant.count;
      told = λ i i_in.
          let k = slice_index order i in
          subst (λ (outsiders : List (Option (List ℕ))). Told k (get_or outsiders k None)) (sym c.tell.ensures)
          (told_there Told olds number c.in_ok-outsider.outsider None (search rules)
          (subst (λ (n : ℕ). Told n c.in_ok-outsider.outsider) (ap (λ (ks : List ℕ). slice_index ks place) same ∙ sym here) c.in_ok-outsider.ensures.outsider) k
          (λ other. elim (cases_lt i place) [
            | inl before ↦ c.loop-place.invariant.told i before
            | inr past ↦
                let last : i ≡ place = omega arith in
                absurd (other (ap (λ (n : ℕ). slice_index order n) last ∙ sym here))
          ]));
    }

pub returns-clause-outsiders : goal.returns-clause-outsiders
returns-clause-outsiders c =
    told_of_sets c.args.problem.now c.args.point.now c.args.sets.now c.loop-place.outsiders.items c.loop-place.invariant.count
    (order_reaches c.args.self.now.order (length c.args.sets.now) c.loop-place.place c.requires.asker.each
    (let count = c.places-place-end.ensures in let past = c.loop-place-test.false in omega arith)
    (λ k. IsOutsiderIfAny c.args.problem.now c.args.point.now (member_set_at c.args.sets.now k).members
    (get_or c.loop-place.outsiders.items k None)) c.loop-place.invariant.told)

pub returns-in_err-outsider-clause-asker : goal.returns-in_err-outsider-clause-asker
returns-in_err-outsider-clause-asker c =
    asker_kept c.args.problem.now c.args.sets.now c.prepare-ready.new.self c.outsider_at.new.self
    c.outsider_at.ensures.same c.prepare-ready.ensures.asker
