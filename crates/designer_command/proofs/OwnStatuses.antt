-- The statuses that each command may end with, where its files say what it works on.
use Rattle.std.proofs.Common.{◌≡◌, ℕ, refl, subst, List}
use Rattle.cost_base.specs.declared.Status.{Status}
use Rattle.cost_base.specs.declared.Status.TheVariants as status
use Rattle.cost_base.specs.Histories.{Taken}
use Rattle.wide_fraction.specs.SearchLimits.{SearchLimits}
use Rattle.input_files.specs.Readings.{Reading, Says, Faulty, Failed, EndsAs}
use Rattle.input_files.proofs.Readings.{one_end, one_said, said_faulty, said_failed}
use Rattle.database_commands.specs.Compares.{MayCompare}
use Rattle.database_commands.specs.Lsas.{MayLsas}
use Rattle.database_commands.specs.Routes.{MayRoute}
use Rattle.path_commands.specs.Conflicts.{MayConflict}
use Rattle.path_commands.specs.Spreads.{MaySpread}
use Rattle.command_words.specs.declared.job.StepUnit.{StepUnit}
use Rattle.change_commands.specs.Changes.{MayChange}
use Rattle.change_commands.specs.Steps.{MaySteps}
use Rattle.design_commands.specs.TotalRuns.{MayTotal}
use Rattle.design_commands.specs.Trials.{MayTry}
use Rattle.designer_command.specs.Runs.{OnSaid, MayAfter}
use Rattle.path_commands.specs.Audits.{MayAudit}
use Rattle.path_commands.specs.LiveAudits.{MayAuditLive}
use Rattle.evidence_commands.specs.Checks.{MayCheck}
use Rattle.design_commands.specs.Designs.{MayDesign}
use Rattle.evidence_commands.specs.Rewrites.{MayRewrite}

-- what a command may write of what its files say goes with no other status than its own
pub record SaysItsOwn {A : Type 0} (may : A → Status → List ℕ → Type 0) : Type 0 where
  pub refused : (x : A) (bytes : List ℕ) → may x status.InputRefused bytes → ⊥
  pub failed : (x : A) (bytes : List ℕ) → may x status.ReadFault bytes → ⊥
  pub unwritten : (x : A) (bytes : List ℕ) → may x status.WriteFault bytes → ⊥
  pub wanting : (x : A) (bytes : List ℕ) → may x status.OutOfMemory bytes → ⊥
  pub worded : (x : A) (bytes : List ℕ) → may x status.WordsRefused bytes → ⊥

pub own_design : (limits : SearchLimits) → SaysItsOwn (MayDesign limits)
own_design limits = record { refused = λ x bytes h. h; failed = λ x bytes h. h; unwritten = λ x bytes h. h; wanting = λ x bytes h. h; worded = λ x bytes h. h }

pub own_check : SaysItsOwn MayCheck
own_check = record { refused = λ x bytes h. h; failed = λ x bytes h. h; unwritten = λ x bytes h. h; wanting = λ x bytes h. h; worded = λ x bytes h. h }

pub own_audit : SaysItsOwn MayAudit
own_audit = record { refused = λ x bytes h. h; failed = λ x bytes h. h; unwritten = λ x bytes h. h; wanting = λ x bytes h. h; worded = λ x bytes h. h }

pub own_audit_live : SaysItsOwn MayAuditLive
own_audit_live = record { refused = λ x bytes h. h; failed = λ x bytes h. h; unwritten = λ x bytes h. h; wanting = λ x bytes h. h; worded = λ x bytes h. h }

pub own_compare : SaysItsOwn MayCompare
own_compare = record { refused = λ x bytes h. h; failed = λ x bytes h. h; unwritten = λ x bytes h. h; wanting = λ x bytes h. h; worded = λ x bytes h. h }

pub own_rewrite : SaysItsOwn MayRewrite
own_rewrite = record { refused = λ x bytes h. h; failed = λ x bytes h. h; unwritten = λ x bytes h. h; wanting = λ x bytes h. h; worded = λ x bytes h. h }

pub own_try : (blocks start : ℕ) → SaysItsOwn (MayTry blocks start)
own_try blocks start = record {
  refused = λ x bytes h. h;
  failed = λ x bytes h. h;
  unwritten = λ x bytes h. h;
  wanting = λ x bytes h. h;
  worded = λ x bytes h. h;
}

pub own_conflict : (limits : SearchLimits) → SaysItsOwn (MayConflict limits)
own_conflict limits = record {
  refused = λ x bytes h. h;
  failed = λ x bytes h. h;
  unwritten = λ x bytes h. h;
  wanting = λ x bytes h. h;
  worded = λ x bytes h. h;
}

pub own_spread : (limits : SearchLimits) → SaysItsOwn (MaySpread limits)
own_spread limits = record { refused = λ x bytes h. h; failed = λ x bytes h. h; unwritten = λ x bytes h. h; wanting = λ x bytes h. h; worded = λ x bytes h. h }

pub own_total : (limits : SearchLimits) → SaysItsOwn (MayTotal limits)
own_total limits = record { refused = λ x bytes h. h; failed = λ x bytes h. h; unwritten = λ x bytes h. h; wanting = λ x bytes h. h; worded = λ x bytes h. h }

pub own_change : (limits : SearchLimits) → SaysItsOwn (MayChange limits)
own_change limits = record {
  refused = λ x bytes h. h;
  failed = λ x bytes h. h;
  unwritten = λ x bytes h. h;
  wanting = λ x bytes h. h;
  worded = λ x bytes h. h;
}

pub own_steps : (nodes : ℕ) (by : StepUnit) → SaysItsOwn (MaySteps nodes by)
own_steps nodes by = record {
  refused = λ x bytes h. h;
  failed = λ x bytes h. h;
  unwritten = λ x bytes h. h;
  wanting = λ x bytes h. h;
  worded = λ x bytes h. h;
}

pub own_lsas : SaysItsOwn MayLsas
own_lsas = record { refused = λ x bytes h. h; failed = λ x bytes h. h; unwritten = λ x bytes h. h; wanting = λ x bytes h. h; worded = λ x bytes h. h }

pub own_route : (from to : ℕ) → SaysItsOwn (MayRoute from to)
own_route from to = record { refused = λ x bytes h. h; failed = λ x bytes h. h; unwritten = λ x bytes h. h; wanting = λ x bytes h. h; worded = λ x bytes h. h }

-- what is wanted of a status holds of each that a command may have as its own
pub record Fits {A : Type 0} (may : A → Status → List ℕ → Type 0) (x : A) (bytes : List ℕ) (Wanted : Status → Type 0) : Type 0 where
  pub done : may x status.Done bytes → Wanted status.Done
  pub impossible : may x status.Impossible bytes → Wanted status.Impossible
  pub undecided : may x status.Undecided bytes → Wanted status.Undecided
  pub rejected : may x status.EvidenceRefused bytes → Wanted status.EvidenceRefused

-- so it holds of the status that the command has
pub own_end : {A : Type 0} (may : A → Status → List ℕ → Type 0) (x : A) (end : Status) (bytes : List ℕ)
    (Wanted : Status → Type 0) → SaysItsOwn may → Fits may x bytes Wanted → may x end bytes → Wanted end
own_end may x status.Done bytes Wanted own fits h = fits.done h
own_end may x status.Impossible bytes Wanted own fits h = fits.impossible h
own_end may x status.Undecided bytes Wanted own fits h = fits.undecided h
own_end may x status.InputRefused bytes Wanted own fits h = absurd (own.refused x bytes h)
own_end may x status.ReadFault bytes Wanted own fits h = absurd (own.failed x bytes h)
own_end may x status.WriteFault bytes Wanted own fits h = absurd (own.unwritten x bytes h)
own_end may x status.OutOfMemory bytes Wanted own fits h = absurd (own.wanting x bytes h)
own_end may x status.WordsRefused bytes Wanted own fits h = absurd (own.worded x bytes h)
own_end may x status.EvidenceRefused bytes Wanted own fits h = fits.rejected h

-- files that say this say nothing else
of_said : {A : Type 0} (reading : Reading A) (may : A → Status → List ℕ → Type 0) (came : List Taken) (x : A)
    (s : Status) (bytes : List ℕ) → EndsAs reading came (Says x) → OnSaid reading came may s bytes → may x s bytes
of_said {A} reading may came x s bytes ends h =
    subst (λ (y : A). may y s bytes)
    (one_said h.said x (one_end reading came (Says h.said) (Says x) h.ends ends)) h.allowed

-- where the files say this, a command writes its own text with a status that it may have
says_so : {A : Type 0} (reading : Reading A) (may : A → Status → List ℕ → Type 0) (came : List Taken) (x : A)
    (end : Status) (bytes : List ℕ) → EndsAs reading came (Says x) → MayAfter reading may came end bytes →
    may x end bytes
says_so reading may came x status.Done bytes ends h = of_said reading may came x status.Done bytes ends h
says_so reading may came x status.Impossible bytes ends h = of_said reading may came x status.Impossible bytes ends h
says_so reading may came x status.Undecided bytes ends h = of_said reading may came x status.Undecided bytes ends h
says_so reading may came x status.InputRefused bytes ends h = absurd (said_faulty x h.fault (one_end reading came (Says x) (Faulty h.fault) ends h.ends))
says_so reading may came x status.ReadFault bytes ends h = absurd (said_failed x h.file (one_end reading came (Says x) (Failed h.file) ends h.ends))
says_so reading may came x status.WriteFault bytes ends h = absurd h
says_so reading may came x status.OutOfMemory bytes ends h = absurd h
says_so reading may came x status.WordsRefused bytes ends h = of_said reading may came x status.WordsRefused bytes ends h
says_so reading may came x status.EvidenceRefused bytes ends h = of_said reading may came x status.EvidenceRefused bytes ends h

-- where the files say this, what is wanted holds of the status that the command ends with
pub said_end : {A : Type 0} (reading : Reading A) (may : A → Status → List ℕ → Type 0) (came : List Taken) (x : A)
    (end : Status) (bytes : List ℕ) (Wanted : Status → Type 0) → SaysItsOwn may → Fits may x bytes Wanted →
    EndsAs reading came (Says x) → MayAfter reading may came end bytes → Wanted end
said_end reading may came x end bytes Wanted own fits ends h = own_end may x end bytes Wanted own fits (says_so reading may came x end bytes ends h)

-- where it may neither find its problem impossible nor leave it undecided nor reject what it is given, it ends with
-- Done
pub only_done : {A : Type 0} (reading : Reading A) (may : A → Status → List ℕ → Type 0) (came : List Taken) (x : A)
    (end : Status) (bytes : List ℕ) → SaysItsOwn may →
    (may x status.Impossible bytes → ⊥) → (may x status.Undecided bytes → ⊥) →
    (may x status.EvidenceRefused bytes → ⊥) → EndsAs reading came (Says x) → MayAfter reading may came end bytes →
    end ≡ status.Done
only_done reading may came x end bytes own possible decided accepted ends h =
    said_end reading may came x end bytes (λ s. s ≡ status.Done) own
    (record { done = λ h. refl; impossible = λ h. absurd (possible h); undecided = λ h. absurd (decided h); rejected = λ h. absurd (accepted h) }) ends h
