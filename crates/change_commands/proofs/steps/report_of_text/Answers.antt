-- The text says costs, or none, or it is off its grammar.
use Rattle.std.proofs.Common.{inl, refl, sym, subst, List, ℕ}
use Rattle.std.proofs.lemmas.Result.{IfOk-weaker}
use Rattle.sections_reader.specs.Texts.{SaysCosts, start_of_bytes}
use Rattle.sections_reader.proofs.SaidCosts.{said_fit}
use Rattle.evidence_reader.specs.Refusals.{IsOffGrammar, IsReaderStop, text_fault_number}
use Rattle.report_writer.proofs.Rejections.{rejected_as}
use Rattle.change_commands.proofs.StepRuns.{refused_may}
use Rattle.change_commands.proofs.steps.report_of_text.Goals as goal

pub report_of_costs-requires-clause-lines : goal.report_of_costs-requires-clause-lines
report_of_costs-requires-clause-lines c = said_fit.0 c.args.bytes.now c.in-Ok.costs c.in-Ok.ensures.read

pub returns-in-Ok : goal.returns-in-Ok
returns-in-Ok c =
    IfOk-weaker c.report_of_costs.result _ _
    (λ report may handed is same. may handed is (subst (λ (bytes : List ℕ). SaysCosts bytes c.in-Ok.costs) (sym same) c.in-Ok.ensures.read))
    c.report_of_costs.ensures

pub returns-in_ok-rejection_of-in-Err : goal.returns-in_ok-rejection_of-in-Err
returns-in_ok-rejection_of-in-Err c =
    let bytes = c.args.bytes.now in
    let start = start_of_bytes bytes in
    let rejection = c.in_ok-rejection_of-in-Err.field-0 in
    let off = rejected_as text_fault_number c.in-Err.stop rejection (λ number place. IsOffGrammar start bytes number place)
    c.in_ok-rejection_of-in-Err.ensures
    (λ fault place told. record { fault = fault; refused = subst (IsReaderStop start 0 bytes) told c.in-Err.ensures.stopped; number = refl }) in
    IfOk-weaker c.rejected.result _ _
    (λ report reports handed is same. refused_may c.args.words.nodes c.args.words.by handed rejection report
    (inl (subst (λ (bs : List ℕ). IsOffGrammar (start_of_bytes bs) bs rejection.number rejection.place) (sym same) off)) reports)
    c.rejected.ensures
