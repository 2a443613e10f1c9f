use Rattle.std.proofs.Common.{ℕ, ◌+◌, ◌≤◌, sym, ◌∙◌, ap, subst, arith, List, [], ◌∷◌, ◌++◌, length, get_or}
use Rattle.std.proofs.lemmas.List.{take_all, take_more}
use Rattle.std.proofs.lemmas.Result.{err_from_is_err_and}
use Rattle.form_search.proofs.costs_of_points.value_costs.Goals as goal

pub loop-x-init : goal.loop-x-init
loop-x-init c = c.new-costs.ensures.items

pub bounds-x-items-x-index : goal.bounds-x-items-x-index
bounds-x-items-x-index c = c.loop-x-test.true

pub overflow_cast-x : goal.overflow_cast-x
overflow_cast-x c =
    let most = subst (λ (xs : List ℕ). get_or xs c.loop-x.x-index 0 ≤ 65535) (sym c.as_slice-x-items.ensures)
    (c.requires c.loop-x.x-index 0 (omega (arith, c.loop-x-test.true, ap length c.as_slice-x-items.ensures))) in
    omega (arith, most)

pub returns-in_err-push : goal.returns-in_err-push
returns-in_err-push c = let p = err_from_is_err_and c.from_residual.result c.from_residual.ensures.1 in rw p.1 tt

pub loop-x-preserved : goal.loop-x-preserved
loop-x-preserved c =
    let items = c.as_slice-x-items.result.now in
    let i = c.loop-x.x-index in
    c.in_ok-push.ensures.items ∙ ap (λ (xs : List ℕ). xs ++ get_or items i 0 ∷ []) c.loop-x.invariant ∙ sym (take_more items i 0 c.loop-x-test.true)

pub returns : goal.returns
returns c =
    c.from_items.ensures ∙ c.loop-x.invariant ∙ take_all c.loop-x.x-index c.as_slice-x-items.result.now (omega (arith, c.loop-x-test.false))
    ∙ c.as_slice-x-items.ensures
