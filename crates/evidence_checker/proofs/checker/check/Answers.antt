use Rattle.std.proofs.Common.{List, ◌∷◌, subst}
use Rattle.std.specs.Prelude.{All, Option}
use Rattle.design_problem.specs.declared.answer.Costs.{Costs}
use Rattle.design_problem.specs.declared.answer.CapTree.{CapTree}
use Rattle.design_problem.specs.declared.form.Row.{Row}
use Rattle.design_problem.specs.Answers.{AnswerParts}
use Rattle.design_problem.specs.Rows.{IsRow}
use Rattle.design_problem.specs.contracts.answer.Answer.{the_view}
use Rattle.design_problem.proofs.ProblemTrees.{valid_holds}
use Rattle.evidence_checker.specs.Laws.{IsAcceptedAs, RefusesInvalid, CostsHold, ProofHolds}
use Rattle.evidence_checker.specs.Refusals.{AtFirstItem, StopsBy}
use Rattle.evidence_checker.specs.Tests.{cost_tests, row_tests, proof_tests, tests}
use Rattle.evidence_checker.proofs.AnswerLaws.{valid_of, refuses, stops_costs, stops_evidence}
use Rattle.evidence_checker.proofs.StopLaws.{err_tells}
use Rattle.evidence_checker.proofs.checker.check.Goals as goal

-- the first test that fails is one of the costs or the floor
costs_stop : (c : goal.After-from_residual-in_err-check_claim) → StopsBy (tests c.args.problem.now c.args.answer.now) c.in_err-check_claim.field-0.0
costs_stop c =
    let p = c.args.problem.now in
    let q = the_view c.answer.inside in
    let s = c.in_err-check_claim.field-0.0 in
    stops_costs p c.args.answer.now c.in_ok-accepted.accepted s
    (subst (λ (a : AnswerParts). IsAcceptedAs a.verdict c.in_ok-accepted.accepted) c.answer.view_is c.in_ok-accepted.ensures.claim)
    c.in_ok-check_shape.ensures.shape
    (subst (λ (a : AnswerParts). StopsBy (cost_tests p a.verdict a.costs a.floor) s) c.answer.view_is
    (subst (λ (costs : Option Costs). StopsBy (cost_tests p q.verdict costs q.floor) s) c.as_ref-costs.ensures.value c.in_err-check_claim.ensures.first))

pub returns-in_err-check_claim-clause-invalid : goal.returns-in_err-check_claim-clause-invalid
returns-in_err-check_claim-clause-invalid c =
    let p = c.args.problem.now in
    let a = c.args.answer.now in
    let s = c.in_err-check_claim.field-0.0 in
    err_tells c.from_residual-in_err-check_claim.result s
    (RefusesInvalid p a) c.from_residual-in_err-check_claim.ensures.1 (refuses p a s c.keeps_conditions.ensures (costs_stop c))

-- the first test that fails is one of the rows or of the proof
evidence_stop : (c : goal.After-from_residual-in_err-check_evidence) → StopsBy (tests c.args.problem.now c.args.answer.now) c.in_err-check_evidence.field-0.0
evidence_stop c =
    let p = c.args.problem.now in
    let q = the_view c.answer.inside in
    let s = c.in_err-check_evidence.field-0.0 in
    stops_evidence p c.args.answer.now c.in_ok-accepted.accepted s c.keeps_conditions.ensures
    (subst (λ (a : AnswerParts). IsAcceptedAs a.verdict c.in_ok-accepted.accepted) c.answer.view_is c.in_ok-accepted.ensures.claim)
    c.in_ok-check_shape.ensures.shape
    (subst (λ (a : AnswerParts). CostsHold p a.verdict a.costs a.floor) c.answer.view_is
    (subst (λ (costs : Option Costs). CostsHold p q.verdict costs q.floor) c.as_ref-costs.ensures.value c.in_ok-check_claim.ensures.holds))
    (subst (λ (a : AnswerParts). StopsBy (AtFirstItem (row_tests p) 0 a.rows ∷ proof_tests p a.rows a.proof) s) c.answer.view_is
    (subst (λ (rows : List Row). StopsBy (AtFirstItem (row_tests p) 0 rows ∷ proof_tests p rows q.proof) s) c.as_slice-rows.ensures
    (subst (λ (proof : Option CapTree).
    StopsBy (AtFirstItem (row_tests p) 0 c.as_slice-rows.result.now ∷ proof_tests p c.as_slice-rows.result.now
    proof) s) c.as_ref.ensures.value c.in_err-check_evidence.ensures.first)))

pub returns-in_err-check_evidence-clause-first : goal.returns-in_err-check_evidence-clause-first
returns-in_err-check_evidence-clause-first c =
    let p = c.args.problem.now in
    let a = c.args.answer.now in
    let s = c.in_err-check_evidence.field-0.0 in
    err_tells c.from_residual-in_err-check_evidence.result s (StopsBy (tests p a)) c.from_residual-in_err-check_evidence.ensures.1 (evidence_stop c)

pub returns-in_err-check_evidence-clause-invalid : goal.returns-in_err-check_evidence-clause-invalid
returns-in_err-check_evidence-clause-invalid c =
    let p = c.args.problem.now in
    let a = c.args.answer.now in
    let s = c.in_err-check_evidence.field-0.0 in
    err_tells c.from_residual-in_err-check_evidence.result s
    (RefusesInvalid p a) c.from_residual-in_err-check_evidence.ensures.1
    (refuses p a s c.keeps_conditions.ensures (evidence_stop c))

pub returns-clause-valid : goal.returns-clause-valid
returns-clause-valid c =
    let p = c.args.problem.now in
    let q = the_view c.answer.inside in
    valid_of p c.args.answer.now c.keeps_conditions.ensures c.in_ok-check_shape.ensures.shape
    (subst (λ (a : AnswerParts). CostsHold p a.verdict a.costs a.floor) c.answer.view_is
    (subst (λ (costs : Option Costs). CostsHold p q.verdict costs q.floor) c.as_ref-costs.ensures.value c.in_ok-check_claim.ensures.holds))
    (subst (λ (a : AnswerParts). All (IsRow p) a.rows) c.answer.view_is
    (subst (λ (rows : List Row). All (IsRow p) rows) c.as_slice-rows.ensures c.in_ok-check_evidence.ensures.rows))
    (subst (λ (a : AnswerParts). ProofHolds p a.rows a.proof) c.answer.view_is
    (subst (λ (rows : List Row). ProofHolds p rows q.proof) c.as_slice-rows.ensures
    (subst (λ (proof : Option CapTree). ProofHolds p c.as_slice-rows.result.now proof) c.as_ref.ensures.value c.in_ok-check_evidence.ensures.holds)))

pub returns-clause-true_claim : goal.returns-clause-true_claim
returns-clause-true_claim c = valid_holds c.args.problem.now c.args.answer.now c.keeps_conditions.ensures (returns-clause-valid c)
