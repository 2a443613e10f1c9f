-- What the checker refuses is rejected by its test.
use Rattle.std.proofs.Common.{ℕ, subst}
use Rattle.cost_base.specs.Order.{FirstOf}
use Rattle.design_problem.specs.Answers.{IsValid}
use Rattle.evidence_checker.specs.Laws.{RefusesInvalid}
use Rattle.evidence_checker.specs.Numbers.{check_fault_number}
use Rattle.evidence_checker.specs.Refusals.{StopsBy}
use Rattle.evidence_checker.specs.Tests.{tests}
use Rattle.report_writer.proofs.Rejections.{rejected_as}
use Rattle.evidence_commands.specs.Checks.{Claim}
use Rattle.evidence_commands.proofs.Judged.{invalid_rejected}
use Rattle.evidence_commands.proofs.check.judge_answer.Goals as goal

pub returns-in_ok-rejection_of-in-Err : goal.returns-in_ok-rejection_of-in-Err
returns-in_ok-rejection_of-in-Err c bytes said =
    let p = c.args.problem.now in
    let answer = c.args.answer.now in
    let claim : Claim = record { problem = p; bytes = bytes } in
    let rejection = c.in_ok-rejection_of-in-Err.field-0 in
    let told = rejected_as check_fault_number c.in-Err.stop rejection
    (λ number place. FirstOf (tests p answer) (record { number = number; place = place }) × (IsValid p answer → ⊥))
    c.in_ok-rejection_of-in-Err.ensures
    (λ fault place is. (subst (StopsBy (tests p answer)) is c.in-Err.ensures.first, subst (RefusesInvalid p answer) is c.in-Err.ensures.invalid)) in
    invalid_rejected claim rejection (record { answer = answer; said = said; first = told.0; invalid = told.1 })
