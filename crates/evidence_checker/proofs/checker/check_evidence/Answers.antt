use Rattle.std.proofs.Common.{ap, [], ◌∷◌}
use Rattle.std.specs.Option.{option_copied}
use Rattle.std.proofs.lemmas.Result.{IfErr-weaker}
use Rattle.design_problem.specs.Boxes.{capped}
use Rattle.evidence_checker.specs.Refusals.{AtFirstItem, StopsBy}
use Rattle.evidence_checker.specs.Tests.{AtFirstLine, row_tests, proof_tests}
use Rattle.evidence_checker.proofs.AnswerLaws.{stops_proof}
use Rattle.evidence_checker.proofs.checker.check_evidence.Goals as goal

pub returns-in-Some-clause-first : goal.returns-in-Some-clause-first
returns-in-Some-clause-first c =
    let p = c.args.problem.now in
    let low = c.low_of.result.now in
    let proof = c.in-Some.proof.now in
    IfErr-weaker c.check_cap_tree.result
    (StopsBy (AtFirstLine c.as_slice.result.now (capped (record { low = low; high = c.high_of.result.now }) proof.cap ∷ []) 0 proof.tree ∷ []))
    (StopsBy (AtFirstItem (row_tests p) 0 c.args.rows.now ∷ proof_tests p c.args.rows.now (option_copied c.args.proof)))
    (λ s stops. stops_proof p c.args.rows.now (option_copied c.args.proof) proof c.in_ok-forms.forms.items c.as_slice.result.now low c.high_of.result.now s
    (ap option_copied c.in-Some.is) c.as_slice.ensures.value c.low_of.ensures c.high_of.ensures c.in_ok-forms.ensures.forms c.in_ok-forms.ensures.rows stops)
    c.check_cap_tree.ensures.first
