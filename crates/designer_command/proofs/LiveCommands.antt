-- When the commands on a running area have to answer, and those that read no file.
use Rattle.std.proofs.Common.{◌≡◌, ◌∙◌, ℕ, refl, sym, List, true, false}
use Rattle.cost_base.specs.declared.Status.{Status}
use Rattle.cost_base.specs.declared.Status.TheVariants as status
use Rattle.cost_base.specs.Histories.{Taken}
use Rattle.database_commands.specs.Compares.{Comparison, MayCompare, difference_text, differences_of}
use Rattle.path_commands.specs.LiveAudits.{MayAuditLive}
use Rattle.help_texts.specs.Texts.{help_text, version_text}
use Rattle.designer_command.specs.Runs.{MayTell}
use Rattle.designer_command.specs.Completeness.{DifferencesAreWritten, HelpIsWritten, IsCompared, RunningAreaIsAudited}
use Rattle.designer_command.proofs.OwnStatuses.{only_done, own_audit_live, own_compare, said_end}

pub running_audited : RunningAreaIsAudited
running_audited names live came now end bytes ends h = only_done _ MayAuditLive came now end bytes own_audit_live (λ h. h) (λ h. h) (λ h. h) ends h

true_false : true ≡ false → ⊥
true_false is = cc

alike_compared : (c : Comparison) (bytes : List ℕ) → MayCompare c status.Done bytes →
    IsCompared c status.Done × (bytes ≡ difference_text c.input.database (differences_of c))
alike_compared c bytes h = ((λ alike. refl, λ differ. absurd (true_false (sym h.0 ∙ differ))), h.1)

differ_compared : (c : Comparison) (bytes : List ℕ) → MayCompare c status.Impossible bytes →
    IsCompared c status.Impossible × (bytes ≡ difference_text c.input.database (differences_of c))
differ_compared c bytes h = ((λ alike. absurd (true_false (sym alike ∙ h.0)), λ differ. refl), h.1)

pub differences_written : DifferencesAreWritten
differences_written names live came c end bytes ends h =
    said_end _ MayCompare came c end bytes
    (λ s. IsCompared c s × (bytes ≡ difference_text c.input.database (differences_of c))) own_compare
    (record {
      done = alike_compared c bytes;
      impossible = differ_compared c bytes;
      undecided = λ h. absurd h;
      rejected = λ h. absurd h;
    }) ends h

-- a text that is told is told with Done
told : (text : List ℕ) (came : List Taken) (end : Status) (bytes : List ℕ) → MayTell text came end bytes →
    (end ≡ status.Done) × (bytes ≡ text)
told text came status.Done bytes h = (refl, h.1)
told text came status.Impossible bytes h = absurd h
told text came status.Undecided bytes h = absurd h
told text came status.InputRefused bytes h = absurd h
told text came status.ReadFault bytes h = absurd h
told text came status.WriteFault bytes h = absurd h
told text came status.OutOfMemory bytes h = absurd h
told text came status.WordsRefused bytes h = absurd h
told text came status.EvidenceRefused bytes h = absurd h

pub help_written : HelpIsWritten
help_written came end bytes = (
  λ topic h. told (help_text topic) came end bytes h,
  λ h. told version_text came end bytes h,
)
