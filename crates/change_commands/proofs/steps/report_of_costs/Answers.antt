-- A text without costs is refused.
use Rattle.std.proofs.Common.{ap, inl, inr, subst}
use Rattle.std.proofs.lemmas.Result.{IfOk-weaker}
use Rattle.report_writer.specs.declared.rejection.Rejection.{Rejection}
use Rattle.sections_reader.specs.Texts.{SaysCosts}
use Rattle.change_commands.proofs.StepRuns.{refused_may}
use Rattle.change_commands.proofs.steps.report_of_costs.Goals as goal

pub returns-in-None : goal.returns-in-None
returns-in-None c =
    IfOk-weaker c.rejected.result _ _
    (λ report reports handed is said. refused_may c.args.words.nodes c.args.words.by handed c.at.result report
    (inr (inl (record {
      said = subst (SaysCosts handed.bytes) c.in-None.is said;
      number = ap (λ (r : Rejection). r.number) c.at.ensures;
      place = ap (λ (r : Rejection). r.place) c.at.ensures;
    }))) reports)
    c.rejected.ensures
