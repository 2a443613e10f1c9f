use Rattle.std.proofs.Common.{◌≡◌, ℕ, zero, suc, ◌*◌, ◌/◌, ◌%◌, ◌≤◌, sym, ◌∙◌, ap, subst, arith, List, [], ◌∷◌, ◌++◌, append-nil, length, get_or}
use Rattle.std.specs.Prelude.{All}
use Rattle.std.proofs.lemmas.List.Elements.{All-append}
use Rattle.cut_advisors.specs.declared.candidate.Candidate.{Candidate}
use Rattle.form_search.specs.Points.{IsFractional, candidate_at}
use Rattle.form_search.proofs.CandidateLaws.{candidate_fractional, candidate_none, candidate_one, pushed_more}
use Rattle.form_search.proofs.CostPoints.{value_most}
use Rattle.form_search.proofs.Quotients.{small_quotient}
use Rattle.form_search.proofs.candidates.push_fractional.Goals.{In_ok-push, Then-x-scale-eq0}
use Rattle.std.proofs.lemmas.Result.{err_from_is_err_and}
use Rattle.form_search.proofs.candidates.push_fractional.Goals as goal

pub bounds-as_slice-var : goal.bounds-as_slice-var
bounds-as_slice-var c = omega (arith, c.requires.known, ap length c.as_slice.ensures)

pub nonzero_rem-x : goal.nonzero_rem-x
nonzero_rem-x c = c.requires.inside.scale

pub returns-then-x-scale-eq0-clause-fractional : goal.returns-then-x-scale-eq0-clause-fractional
returns-then-x-scale-eq0-clause-fractional c = c.requires.so_far

pub overflow_cast-candidate : goal.overflow_cast-candidate
overflow_cast-candidate c = omega (arith, c.requires.known, c.requires.inside.low_count, c.requires.ranges.few)

pub nonzero_div-candidate : goal.nonzero_div-candidate
nonzero_div-candidate c = c.requires.inside.scale

pub bounds-as_slice-var-2 : goal.bounds-as_slice-var-2
bounds-as_slice-var-2 c = omega (arith, c.requires.known, c.requires.inside.low_count, ap length c.as_slice-2.ensures)

pub bounds-as_slice-var-3 : goal.bounds-as_slice-var-3
bounds-as_slice-var-3 c = omega (arith, c.requires.known, c.requires.inside.high_count, ap length c.as_slice-3.ensures)

pub returns-in_err-push-clause-pushed : goal.returns-in_err-push-clause-pushed
returns-in_err-push-clause-pushed c = let p = err_from_is_err_and c.from_residual.result c.from_residual.ensures.1 in rw p.1 tt

pub returns-in_err-push-clause-fractional : goal.returns-in_err-push-clause-fractional
returns-in_err-push-clause-fractional c = let p = err_from_is_err_and c.from_residual.result c.from_residual.ensures.1 in rw p.1 tt

pub returns-in_err-push-clause-more : goal.returns-in_err-push-clause-more
returns-in_err-push-clause-more c = let p = err_from_is_err_and c.from_residual.result c.from_residual.ensures.1 in rw p.1 tt

pub returns-in_err-push-clause-some : goal.returns-in_err-push-clause-some
returns-in_err-push-clause-some c = let p = err_from_is_err_and c.from_residual.result c.from_residual.ensures.1 in rw p.1 tt

whole : (c : Then-x-scale-eq0) → get_or c.args.point.now.values c.args.var 0 % c.args.point.now.scale ≡ 0
whole c = subst (λ (xs : List ℕ). get_or xs c.args.var 0 % c.args.point.now.scale ≡ 0) c.as_slice.ensures c.if-x-scale-eq0.true

pub returns-then-x-scale-eq0-clause-pushed : goal.returns-then-x-scale-eq0-clause-pushed
returns-then-x-scale-eq0-clause-pushed c =
    let old = c.args.candidates.now.items in
    sym (ap (λ (cs : List Candidate). old ++ cs)
    (candidate_none c.args.costs.now c.args.point.now c.args.var (whole (goal.at.returns-then-x-scale-eq0-clause-pushed c).Then-x-scale-eq0))
    ∙ append-nil old)

pub returns-then-x-scale-eq0-clause-some : goal.returns-then-x-scale-eq0-clause-some
returns-then-x-scale-eq0-clause-some c = λ part. absurd (part (whole (goal.at.returns-then-x-scale-eq0-clause-some c).Then-x-scale-eq0))

pub overflow_cast-candidate-2 : goal.overflow_cast-candidate-2
overflow_cast-candidate-2 c =
    let scale = c.args.point.now.scale in
    let x = get_or c.as_slice.result.now c.args.var 0 in
    let most : x ≤ 65535 * scale = subst (λ (xs : List ℕ). get_or xs c.args.var 0 ≤ 65535 * scale) (sym c.as_slice.ensures)
    (value_most (length c.args.costs.now.low) c.args.costs.now c.args.point.now c.args.var c.requires.ranges c.requires.inside c.requires.known) in
    omega (arith, small_quotient x scale c.requires.inside.scale most)

part : (c : In_ok-push) → get_or c.args.point.now.values c.args.var 0 % c.args.point.now.scale ≡ 0 → ⊥
part c = subst (λ (xs : List ℕ). get_or xs c.args.var 0 % c.args.point.now.scale ≡ 0 → ⊥) c.as_slice.ensures c.if-x-scale-eq0.false

items : (c : In_ok-push) → c.push.new.self.items ≡ c.args.candidates.now.items ++ candidate_at c.args.costs.now c.args.point.now c.args.var ∷ []
items c =
    c.in_ok-push.ensures.items
    ∙ ap (λ (x : Candidate). c.args.candidates.now.items ++ x ∷ []) (λ i. record {
      var = c.args.var;
      floor = get_or (c.as_slice.ensures i) c.args.var 0 / c.args.point.now.scale;
      low = get_or (c.as_slice-2.ensures i) c.args.var 0;
      high = get_or (c.as_slice-3.ensures i) c.args.var 0;
    })

pub returns-clause-pushed : goal.returns-clause-pushed
returns-clause-pushed c =
    items c ∙ ap (λ (cs : List Candidate). c.args.candidates.now.items ++ cs) (sym (candidate_one c.args.costs.now c.args.point.now c.args.var (part c)))

pub returns-clause-fractional : goal.returns-clause-fractional
returns-clause-fractional c =
    let box = c.args.costs.now in
    let point = c.args.point.now in
    let IsHere = IsFractional box point in
    subst (λ (cs : List Candidate). All IsHere cs) (sym (items c))
    (All-append IsHere c.args.candidates.now.items (candidate_at box point c.args.var ∷ []) c.requires.so_far
    (one IsHere (candidate_at box point c.args.var) (candidate_fractional box point c.args.var c.requires.inside.scale c.requires.known (part c))))
  where
    one : (P : Candidate → Type 0) (x : Candidate) → P x → All P (x ∷ [])
    one P x is zero d k_in = is
    one P x is (suc k) d k_in = absurd (omega arith)

pub returns-clause-more : goal.returns-clause-more
returns-clause-more c = (pushed_more c.args.candidates.now.items c.push.new.self.items _ (items c)).0

pub returns-clause-some : goal.returns-clause-some
returns-clause-some c = λ fractional. (pushed_more c.args.candidates.now.items c.push.new.self.items _ (items c)).1
