-- The bytes say the costs that were read.
use Rattle.std.proofs.Common.{arith, inl, refl, subst}
use Rattle.evidence_reader.specs.Refusals.{IsOffGrammar, IsReaderStop, text_fault_number}
use Rattle.report_writer.proofs.Rejections.{rejected_as}
use Rattle.sections_reader.specs.Texts.{start_of_bytes}
use Rattle.sections_reader.proofs.SaidCosts.{said_fit}
use Rattle.evidence_commands.proofs.FewLines.{few_lines}
use Rattle.evidence_commands.proofs.rewrite.revised_by_text.Goals as goal

pub revised_by_costs-requires-clause-few : goal.revised_by_costs-requires-clause-few
revised_by_costs-requires-clause-few c = few_lines c.args.bytes.now c.in-Ok.costs c.in-Ok.ensures.read (omega (arith, c.requires))

pub revised_by_costs-requires-clause-fit : goal.revised_by_costs-requires-clause-fit
revised_by_costs-requires-clause-fit c = said_fit.0 c.args.bytes.now c.in-Ok.costs c.in-Ok.ensures.read

pub returns-in-Ok : goal.returns-in-Ok
returns-in-Ok c = c.revised_by_costs.ensures c.args.bytes.now c.in-Ok.ensures.read

pub returns-in_ok-rejection_of-in-Err : goal.returns-in_ok-rejection_of-in-Err
returns-in_ok-rejection_of-in-Err c =
    let bytes = c.args.bytes.now in
    let start = start_of_bytes bytes in
    inl (rejected_as text_fault_number c.in-Err.stop c.in_ok-rejection_of-in-Err.field-0 (λ number place. IsOffGrammar start bytes number place)
    c.in_ok-rejection_of-in-Err.ensures
    (λ fault place is. record { fault = fault; refused = subst (IsReaderStop start 0 bytes) is c.in-Err.ensures.stopped; number = refl }))
