use Rattle.std.proofs.Common.{◌∙◌, length, [], ◌∷◌}
use Rattle.std.proofs.lemmas.Result.{IfErr-weaker}
use Rattle.std.specs.Prelude.{Some}
use Rattle.design_problem.specs.declared.answer.Verdict.TheVariants.{Optimal}
use Rattle.evidence_checker.specs.Refusals.{AtNoPlace, StopsBy}
use Rattle.evidence_checker.specs.Tests.{cost_tests, IsFalseFloor}
use Rattle.evidence_checker.proofs.CostLaws.{given_count}
use Rattle.evidence_checker.proofs.CostTests.{err_stops, stops_ends, stops_bounds, stops_greatest, stops_paths, stops_floor}
use Rattle.evidence_checker.proofs.cost_tests.check_costs.Goals as goal

pub returns-in_err-check_ends-clause-first : goal.returns-in_err-check_ends-clause-first
returns-in_err-check_ends-clause-first c =
    let s = c.in_err-check_ends.field-0.0 in
    err_stops c.from_residual-in_err-check_ends.result s
    (cost_tests c.args.problem.now (Optimal c.args.greatest) (Some c.args.costs.now) c.args.floor)
    c.from_residual-in_err-check_ends.ensures.1
    (stops_ends c.args.problem.now c.args.greatest c.args.costs.now c.args.floor c.as_slice-lines.result.now
    c.as_slice-values.result.now s c.as_slice-lines.ensures (c.as_slice-values.ensures.value
    ∙ c.in_ok-given.ensures)
    c.in_ok-check_places.ensures.named c.in_err-check_ends.ensures.first)

pub check_bounds-requires : goal.check_bounds-requires
check_bounds-requires c =
    given_count (length c.args.problem.now.low) c.as_slice-values.result.now c.args.problem.now.vars
    c.as_slice-lines.result.now (c.as_slice-values.ensures.value ∙ c.in_ok-given.ensures)

pub returns-in_err-check_bounds-clause-first : goal.returns-in_err-check_bounds-clause-first
returns-in_err-check_bounds-clause-first c =
    let s = c.in_err-check_bounds.field-0.0 in
    err_stops c.from_residual-in_err-check_bounds.result s
    (cost_tests c.args.problem.now (Optimal c.args.greatest) (Some c.args.costs.now) c.args.floor)
    c.from_residual-in_err-check_bounds.ensures.1
    (stops_bounds c.args.problem.now c.args.greatest c.args.costs.now c.args.floor c.as_slice-lines.result.now
    c.as_slice-values.result.now s c.as_slice-lines.ensures (c.as_slice-values.ensures.value
    ∙ c.in_ok-given.ensures)
    c.in_ok-check_places.ensures.named c.in_ok-check_ends.ensures.names c.in_err-check_bounds.ensures.first)

pub returns-in_err-check_greatest-clause-first : goal.returns-in_err-check_greatest-clause-first
returns-in_err-check_greatest-clause-first c =
    let s = c.in_err-check_greatest.field-0.0 in
    err_stops c.from_residual-in_err-check_greatest.result s
    (cost_tests c.args.problem.now (Optimal c.args.greatest) (Some c.args.costs.now) c.args.floor)
    c.from_residual-in_err-check_greatest.ensures.1
    (stops_greatest c.args.problem.now c.args.greatest c.args.costs.now c.args.floor c.as_slice-lines.result.now
    c.as_slice-values.result.now s c.as_slice-lines.ensures (c.as_slice-values.ensures.value
    ∙ c.in_ok-given.ensures)
    c.in_ok-check_places.ensures.named c.in_ok-check_ends.ensures.names c.in_ok-check_bounds.ensures.within c.in_err-check_greatest.ensures.first)

pub returns-in_err-check_paths-clause-first : goal.returns-in_err-check_paths-clause-first
returns-in_err-check_paths-clause-first c =
    let s = c.in_err-check_paths.field-0.0 in
    err_stops c.from_residual-in_err-check_paths.result s
    (cost_tests c.args.problem.now (Optimal c.args.greatest) (Some c.args.costs.now) c.args.floor)
    c.from_residual-in_err-check_paths.ensures.1
    (stops_paths c.args.problem.now c.args.greatest c.args.costs.now c.args.floor c.as_slice-lines.result.now
    c.as_slice-values.result.now s c.as_slice-lines.ensures (c.as_slice-values.ensures.value
    ∙ c.in_ok-given.ensures)
    c.in_ok-check_places.ensures.named c.in_ok-check_ends.ensures.names c.in_ok-check_bounds.ensures.within
    c.in_ok-check_greatest.ensures.same c.in_err-check_paths.ensures.first)

pub returns-clause-first : goal.returns-clause-first
returns-clause-first c =
    IfErr-weaker c.check_floor.result
    (StopsBy (AtNoPlace 52 (IsFalseFloor c.args.problem.now c.args.greatest c.args.floor) ∷ []))
    (StopsBy (cost_tests c.args.problem.now (Optimal c.args.greatest) (Some c.args.costs.now) c.args.floor))
    (λ s stops. stops_floor c.args.problem.now c.args.greatest c.args.costs.now c.args.floor c.as_slice-lines.result.now
    c.as_slice-values.result.now s c.as_slice-lines.ensures (c.as_slice-values.ensures.value
    ∙ c.in_ok-given.ensures)
    c.in_ok-check_places.ensures.named c.in_ok-check_ends.ensures.names c.in_ok-check_bounds.ensures.within
    c.in_ok-check_greatest.ensures.same c.in_ok-check_paths.ensures.only stops)
    c.check_floor.ensures.first
