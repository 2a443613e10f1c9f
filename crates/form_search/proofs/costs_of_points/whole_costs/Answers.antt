use Rattle.std.proofs.Common.{◌≡◌, ℕ, ◌+◌, ◌*◌, ◌/◌, ◌%◌, ◌<◌, ◌≤◌, sym, ◌∙◌, ap, subst, arith, List, [], ◌∷◌, ◌++◌, length, map, take, get_or}
use Rattle.std.proofs.lemmas.List.{map-append, take_all, take_more}
use Rattle.std.proofs.lemmas.Result.{err_from_is_err_and}
use Rattle.area_graph.specs.declared.Point.{Point}
use Rattle.form_search.proofs.Quotients.{exact_quotient, small_quotient}
use Rattle.form_search.proofs.costs_of_points.whole_costs.Goals as goal

pub loop-x-init : goal.loop-x-init
loop-x-init c = ap (λ (xs : List ℕ). map (λ x. x * c.args.point.now.scale) xs) c.new-costs.ensures.items

pub bounds-x-items-x-index : goal.bounds-x-items-x-index
bounds-x-items-x-index c = c.loop-x-test.true

pub nonzero_div-x : goal.nonzero_div-x
nonzero_div-x c = c.requires.scale

pub overflow_cast-x : goal.overflow_cast-x
overflow_cast-x c =
    let scale = c.args.point.now.scale in
    let x = get_or c.as_slice-x-items.result.now c.loop-x.x-index 0 in
    let most : x ≤ 65535 * scale = subst (λ (xs : List ℕ). get_or xs c.loop-x.x-index 0 ≤ 65535 * scale) (sym c.as_slice-x-items.ensures)
    (c.requires.most c.loop-x.x-index 0 (omega (arith, c.loop-x-test.true, ap length c.as_slice-x-items.ensures))) in
    omega (arith, small_quotient x scale c.requires.scale most)

pub returns-in_err-push : goal.returns-in_err-push
returns-in_err-push c = let p = err_from_is_err_and c.from_residual.result c.from_residual.ensures.1 in rw p.1 tt

pub loop-x-preserved : goal.loop-x-preserved
loop-x-preserved c =
    let items = c.as_slice-x-items.result.now in
    let i = c.loop-x.x-index in
    let scale = c.args.point.now.scale in
    let x = get_or items i 0 in
    let whole : x % scale ≡ 0 = subst (λ (xs : List ℕ). get_or xs i 0 % scale ≡ 0) (sym c.as_slice-x-items.ensures)
    (c.requires.whole i 0 (omega (arith, c.loop-x-test.true, ap length c.as_slice-x-items.ensures))) in
    ap (λ (xs : List ℕ). map (λ (y : ℕ). y * scale) xs) c.in_ok-push.ensures.items
    ∙ map-append (λ (y : ℕ). y * scale) c.loop-x.costs.items (x / scale ∷ [])
    ∙ ap (λ (xs : List ℕ). xs ++ (x / scale) * scale ∷ []) c.loop-x.invariant
    ∙ ap (λ (y : ℕ). take i items ++ y ∷ []) (exact_quotient x scale c.requires.scale whole)
    ∙ sym (take_more items i 0 c.loop-x-test.true)

pub returns : goal.returns
returns c =
    let scale = c.args.point.now.scale in
    ap (λ (xs : List ℕ). record { scale = scale; values = xs })
    (ap (λ (xs : List ℕ). map (λ (y : ℕ). y * scale) xs) c.from_items.ensures ∙ c.loop-x.invariant
    ∙ take_all c.loop-x.x-index c.as_slice-x-items.result.now (omega (arith, c.loop-x-test.false)) ∙ c.as_slice-x-items.ensures)
