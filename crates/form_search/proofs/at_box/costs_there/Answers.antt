use Rattle.std.proofs.Common.{◌≡◌, ℕ, ◌≤◌, refl, sym, ◌∙◌, ap, subst, inl, inr, List}
use Rattle.std.proofs.lemmas.Bool.{false≢true}
use Rattle.std.proofs.lemmas.Result.{err_from_is_err_and}
use Rattle.std.specs.Prelude.{All}
use Rattle.area_graph.specs.declared.Point.{Point}
use Rattle.area_graph.specs.Costs.{at_costs}
use Rattle.design_problem.specs.Boxes.{IsInBox}
use Rattle.form_search.proofs.CostPoints.{cost_point, inside_most, scaled_inside}
use Rattle.form_search.proofs.SourceLaws.{same_alike}
use Rattle.form_search.proofs.at_box.costs_there.Goals as goal

pub whole_costs-requires-clause-most : goal.whole_costs-requires-clause-most
whole_costs-requires-clause-most g c =
    (cost_point (g.S.FormSource.count c.args.source.now) c.args.costs.now c.args.point.now c.requires.ranges
    c.requires.least.least.inside c.requires.least.small).most

pub value_costs-requires : goal.value_costs-requires
value_costs-requires g c =
    subst (λ (p : Point). All (λ (x : ℕ). x ≤ 65535) p.values) (sym c.are_values_accepted.ensures.point)
    (inside_most (g.S.FormSource.count c.args.source.now) c.args.costs.now c.args.point.now.values c.requires.ranges
    (c.are_values_accepted.ensures.within c.if-are_values_accepted.true))

pub is_whole-requires : goal.is_whole-requires
is_whole-requires g c = c.requires.least.least.inside.scale

pub whole_costs-requires-clause-scale : goal.whole_costs-requires-clause-scale
whole_costs-requires-clause-scale g c = c.requires.least.least.inside.scale

pub whole_costs-requires-clause-whole : goal.whole_costs-requires-clause-whole
whole_costs-requires-clause-whole g c = c.is_whole.ensures.0 c.if-is_whole.true

pub returns-in_err-whole_costs-clause-found : goal.returns-in_err-whole_costs-clause-found
returns-in_err-whole_costs-clause-found g c = let p = err_from_is_err_and c.from_residual.result c.from_residual.ensures.1 in rw p.1 tt

pub returns-in_err-whole_costs-clause-fractional : goal.returns-in_err-whole_costs-clause-fractional
returns-in_err-whole_costs-clause-fractional g c = let p = err_from_is_err_and c.from_residual.result c.from_residual.ensures.1 in
    rw p.1 (λ none whole. absurd (cc))

pub returns-in_err-whole_costs-clause-point : goal.returns-in_err-whole_costs-clause-point
returns-in_err-whole_costs-clause-point g c = refl

pub returns-in_err-whole_costs-clause-in_step : goal.returns-in_err-whole_costs-clause-in_step
returns-in_err-whole_costs-clause-in_step g c = λ forms. (λ is. is, λ is. is)

pub returns-in_err-whole_costs-clause-same : goal.returns-in_err-whole_costs-clause-same
returns-in_err-whole_costs-clause-same g c = same_alike g.S.FormSource.count g.S.FormSource.accepted g.S.FormSource.true_form g.S.FormSource.possible_forms
    c.args.source.now

pub are_values_accepted-requires-clause-ranges : goal.are_values_accepted-requires-clause-ranges
are_values_accepted-requires-clause-ranges g c = c.requires.ranges

pub are_values_accepted-requires-clause-inside : goal.are_values_accepted-requires-clause-inside
are_values_accepted-requires-clause-inside g c = c.requires.least.least.inside

pub returns-in_err-value_costs-clause-found : goal.returns-in_err-value_costs-clause-found
returns-in_err-value_costs-clause-found g c = let p = err_from_is_err_and c.from_residual-in_err-value_costs.result c.from_residual-in_err-value_costs.ensures.1
    in rw p.1 tt

pub returns-in_err-value_costs-clause-fractional : goal.returns-in_err-value_costs-clause-fractional
returns-in_err-value_costs-clause-fractional g c = let p = err_from_is_err_and c.from_residual-in_err-value_costs.result
    c.from_residual-in_err-value_costs.ensures.1 in rw p.1 (λ none whole. absurd (cc))

pub returns-in_err-value_costs-clause-point : goal.returns-in_err-value_costs-clause-point
returns-in_err-value_costs-clause-point g c = c.are_values_accepted.ensures.point

pub returns-in_err-value_costs-clause-in_step : goal.returns-in_err-value_costs-clause-in_step
returns-in_err-value_costs-clause-in_step g c = c.are_values_accepted.ensures.in_step

pub returns-in_err-value_costs-clause-same : goal.returns-in_err-value_costs-clause-same
returns-in_err-value_costs-clause-same g c = c.are_values_accepted.ensures.same

pub returns-in_ok-whole_costs-clause-found : goal.returns-in_ok-whole_costs-clause-found
returns-in_ok-whole_costs-clause-found g c =
    let source = c.args.source.now in
    let point = c.args.point.now in
    let w = c.in_ok-whole_costs.field-0 in
    let least = c.requires.least.least in (
      scaled_inside c.args.costs.now point w least.inside c.in_ok-whole_costs.ensures,
      g.met.S.FormSource.scale_is_free source w point.scale least.inside.scale
          (subst (λ (p : Point). g.S.FormSource.accepted source p) (sym c.in_ok-whole_costs.ensures) least.accepted),
      inl c.in_ok-whole_costs.ensures,
    )

pub returns-in_ok-whole_costs-clause-fractional : goal.returns-in_ok-whole_costs-clause-fractional
returns-in_ok-whole_costs-clause-fractional g c = λ none whole. absurd (cc)

pub returns-in_ok-whole_costs-clause-point : goal.returns-in_ok-whole_costs-clause-point
returns-in_ok-whole_costs-clause-point g c = refl

pub returns-in_ok-whole_costs-clause-in_step : goal.returns-in_ok-whole_costs-clause-in_step
returns-in_ok-whole_costs-clause-in_step g c = λ forms. (λ is. is, λ is. is)

pub returns-in_ok-whole_costs-clause-same : goal.returns-in_ok-whole_costs-clause-same
returns-in_ok-whole_costs-clause-same g c = same_alike g.S.FormSource.count g.S.FormSource.accepted g.S.FormSource.true_form g.S.FormSource.possible_forms
    c.args.source.now

pub returns-in_ok-value_costs-clause-found : goal.returns-in_ok-value_costs-clause-found
returns-in_ok-value_costs-clause-found g c =
    let source = c.args.source.now in
    let point = c.args.point.now in
    let w = c.in_ok-value_costs.field-0 in
    let is : w ≡ point.values = c.in_ok-value_costs.ensures ∙ ap (λ (p : Point). p.values) c.are_values_accepted.ensures.point in
    let taken = c.if-are_values_accepted.true in (
      subst (λ (xs : List ℕ). IsInBox c.args.costs.now xs) (sym is) (c.are_values_accepted.ensures.within taken),
      subst (λ (xs : List ℕ). g.S.FormSource.accepted source (at_costs xs)) (sym is) (c.are_values_accepted.ensures.accepted taken),
      inr (λ whole. false≢true (sym c.if-is_whole.false ∙ c.is_whole.ensures.1 whole), is),
    )

pub returns-in_ok-value_costs-clause-fractional : goal.returns-in_ok-value_costs-clause-fractional
returns-in_ok-value_costs-clause-fractional g c = λ none whole. absurd (cc)

pub returns-in_ok-value_costs-clause-point : goal.returns-in_ok-value_costs-clause-point
returns-in_ok-value_costs-clause-point g c = c.are_values_accepted.ensures.point

pub returns-in_ok-value_costs-clause-in_step : goal.returns-in_ok-value_costs-clause-in_step
returns-in_ok-value_costs-clause-in_step g c = c.are_values_accepted.ensures.in_step

pub returns-in_ok-value_costs-clause-same : goal.returns-in_ok-value_costs-clause-same
returns-in_ok-value_costs-clause-same g c = c.are_values_accepted.ensures.same

pub returns-else-are_values_accepted-clause-found : goal.returns-else-are_values_accepted-clause-found
returns-else-are_values_accepted-clause-found g c = tt

pub returns-else-are_values_accepted-clause-fractional : goal.returns-else-are_values_accepted-clause-fractional
returns-else-are_values_accepted-clause-fractional g c = λ none whole. false≢true (sym c.if-is_whole.false ∙ c.is_whole.ensures.1 whole)

pub returns-else-are_values_accepted-clause-point : goal.returns-else-are_values_accepted-clause-point
returns-else-are_values_accepted-clause-point g c = c.are_values_accepted.ensures.point

pub returns-else-are_values_accepted-clause-in_step : goal.returns-else-are_values_accepted-clause-in_step
returns-else-are_values_accepted-clause-in_step g c = c.are_values_accepted.ensures.in_step

pub returns-else-are_values_accepted-clause-same : goal.returns-else-are_values_accepted-clause-same
returns-else-are_values_accepted-clause-same g c = c.are_values_accepted.ensures.same
