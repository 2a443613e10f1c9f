use Rattle.std.proofs.Common.{rules, ◌≡◌, ℕ, List, Option, None, ◌∙◌, ap, sym, subst, inl, inr, get_or, length, slice_index, arith}
use Rattle.std.proofs.lemmas.Bool.{cases_lt}
use Rattle.std.proofs.lemmas.List.{length-set}
use Rattle.design_problem.specs.Problems.{request_at}
use Rattle.rival_separation.specs.Askers.{Asking, IsCheapestIfAny}
use Rattle.rival_separation.proofs.AskerLemmas.{asker_kept, order_reaches, shared_kept, told_there}
use Rattle.rival_separation.proofs.asker.Asker.cheapest_rivals.Goals as goal

pub loop-place-preserved : goal.loop-place-preserved
loop-place-preserved c =
    let g = c.args.graph.now in
    let p = c.args.point.now in
    let requests = c.args.requests.now in
    let order = c.args.self.now.order in
    let place = c.loop-place.place in
    let olds = c.loop-place.rivals.items in
    let number = c.number_at.result in
    let Told : ℕ → Option (List ℕ) → Type 0 = λ k rival. IsCheapestIfAny g p (request_at requests k) rival in
    let same = ap (λ (a : Asking). a.order) c.prepare-ready.ensures.same ∙ c.loop-place.invariant.order in
    let still = ap (λ (a : Asking). a.order) c.rival_at.ensures.same ∙ same in
    let here : number ≡ slice_index order place = c.number_at.ensures ∙ ap (λ (ks : List ℕ). slice_index ks place) still in
    record {
      asker = asker_kept g requests c.prepare-ready.new.self c.rival_at.new.self c.rival_at.ensures.same c.prepare-ready.ensures.asker;
      order = still;
      shared = shared_kept g p c.prepare-ready.new.self.room c.rival_at.new.self.room c.prepare-ready.result
          (ap (λ (a : Asking). a.room) c.rival_at.ensures.same) c.prepare-ready.ensures.ready.shares;
      count = ap length c.tell.ensures ∙ length-set olds number c.in_ok-rival.rival ∙ c.loop-place.invariant.count;
      told = λ i i_in.
          let k = slice_index order i in
          subst (λ (rivals : List (Option (List ℕ))). Told k (get_or rivals k None)) (sym c.tell.ensures)
          (told_there Told olds number c.in_ok-rival.rival None (search rules)
          (subst (λ (n : ℕ). Told n c.in_ok-rival.rival) (ap (λ (ks : List ℕ). slice_index ks place) same ∙ sym here) c.in_ok-rival.ensures.rival) k
          (λ other. elim (cases_lt i place) [
            | inl before ↦ c.loop-place.invariant.told i before
            | inr past ↦
                let last : i ≡ place = omega arith in
                absurd (other (ap (λ (n : ℕ). slice_index order n) last ∙ sym here))
          ]));
    }

pub returns-clause-rivals : goal.returns-clause-rivals
returns-clause-rivals c =
    record {
      count = c.loop-place.invariant.count;
      each = order_reaches c.args.self.now.order (length c.args.requests.now) c.loop-place.place c.requires.asker.each
          (let count = c.places-place-end.ensures in let past = c.loop-place-test.false in omega arith)
          (λ k. IsCheapestIfAny c.args.graph.now c.args.point.now (request_at c.args.requests.now k)
          (get_or c.loop-place.rivals.items k None)) c.loop-place.invariant.told;
    }

pub returns-in_err-rival-clause-asker : goal.returns-in_err-rival-clause-asker
returns-in_err-rival-clause-asker c =
    asker_kept c.args.graph.now c.args.requests.now c.prepare-ready.new.self c.rival_at.new.self c.rival_at.ensures.same c.prepare-ready.ensures.asker
