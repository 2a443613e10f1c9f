-- What a rewrite makes of a configuration and a file with costs: an answer's, or what `total`, `spread` or `change`
-- writes.
use Rattle.std.specs.Prelude.{◌≡◌, ℕ, ◌-◌, ◌^◌, ◌<◌, ◌⊎◌, List, [], ◌∷◌, ◌++◌, length, Bool, if◌then◌else◌, Option, None, Some}
use Rattle.std.specs.List.{filter, list_any}
use Rattle.cost_base.specs.declared.Status.{Status}
use Rattle.cost_base.specs.declared.Status.TheVariants as status
use Rattle.cost_base.specs.Lists.{same_bytes}
use Rattle.config_reader.specs.Configs.{config_of}
use Rattle.design_problem.specs.declared.answer.CostLine.{CostLine}
use Rattle.config_writer.specs.Rewriting.{costs_of, rewritten, first_missing, ReadsBack}
use Rattle.evidence_commands.specs.declared.rewrite.Revised.{Revised}
use Rattle.evidence_commands.specs.declared.rewrite.Revised.TheVariants.{Written, Rejected}
use Rattle.input_files.specs.Readings.{Reading, Ready, ◌>>=◌}
use Rattle.input_files.specs.Outcomes.{ConfigFile, config_read, file_read, longest_answer}
use Rattle.report_writer.specs.declared.rejection.Rejection.{Rejection}
use Rattle.report_writer.specs.declared.report.Report.{Report}
use Rattle.report_writer.specs.Texts.{rejected_line}
use Rattle.report_writer.specs.Reports.{Reports}
use Rattle.sections_reader.specs.declared.fault.CostsFault.TheVariants.{NoCosts, NoInterface}
use Rattle.sections_reader.specs.FaultNumbers.{costs_fault_number}
use Rattle.sections_reader.specs.Texts.{SaysCosts, start_of_bytes}
use Rattle.evidence_reader.specs.Refusals.{IsOffGrammar}

-- what a rewrite is made of: a configuration, and the bytes of a file with costs
pub record Revision : Type 0 where
  pub config : ConfigFile
  pub bytes : List ℕ

-- what a file with costs says beside this configuration
abbrev pub revision_with : ConfigFile → List ℕ → Reading Revision
revision_with file answer = file_read longest_answer answer >>= λ bytes. Ready (record { config = file; bytes = bytes })

-- what the files of a rewrite say, read in their order: the configuration, and then that with costs
abbrev pub revision_read : List ℕ → List ℕ → Reading Revision
revision_read config answer =
    config_read config >>= λ file.
    file_read longest_answer answer >>= λ bytes.
    Ready (record { config = file; bytes = bytes })

-- those of some cost lines that are of a router
abbrev pub own_lines : List ℕ → List CostLine → List CostLine
own_lines router lines = filter (λ line. same_bytes line.router router) lines

-- whether one of some cost lines is of the interface
abbrev pub has_line_of : List ℕ → List CostLine → Bool
has_line_of interface lines = list_any (λ line. same_bytes interface line.interface) lines

-- some cost lines, but of several of one interface only the last one
abbrev pub last_lines : List CostLine → List CostLine
last_lines [] = []
last_lines (line ∷ lines) = if has_line_of line.interface lines then last_lines lines else line ∷ last_lines lines

-- the new costs that cost lines give the interfaces of a configuration's router: the last line of each counts
abbrev pub new_costs : ConfigFile → List CostLine → List (List ℕ × ℕ)
new_costs config lines = costs_of (last_lines (own_lines (config_of config.name config.bytes).name lines))

-- the text is the configuration with the new costs that a file with costs says, and it reads back as these say
pub record IsRewritten (r : Revision) (text : List ℕ) : Type 0 where
  pub costs : List CostLine
  pub said : SaysCosts r.bytes (Some costs)
  pub headed : first_missing (new_costs r.config costs) r.config.bytes ≡ None
  pub written : text ≡ rewritten (new_costs r.config costs) r.config.bytes
  pub read_back : ReadsBack r.config.name (new_costs r.config costs) r.config.bytes text

-- a rewrite is rejected, since the file with costs says that there are none
pub record HasNoCosts (r : Revision) (rejection : Rejection) : Type 0 where
  pub none : SaysCosts r.bytes None
  pub number : rejection.number ≡ costs_fault_number NoCosts
  pub place : rejection.place ≡ 0

-- a rewrite is rejected, since a cost line of its router names an interface without a head in the configuration
pub record NamesNoHead (r : Revision) (rejection : Rejection) : Type 0 where
  pub costs : List CostLine
  pub said : SaysCosts r.bytes (Some costs)
  pub missing : first_missing (new_costs r.config costs) r.config.bytes ≡ None → ⊥
  pub number : rejection.number ≡ costs_fault_number NoInterface
  pub place : rejection.place ≡ 0

-- why a rewrite is rejected: its file is off the grammar of texts with costs, or gives the configuration no costs
abbrev pub IsUnfit : Revision → Rejection → Type 0
IsUnfit r rejection =
    IsOffGrammar (start_of_bytes r.bytes) r.bytes rejection.number rejection.place ⊎ HasNoCosts r rejection ⊎ NamesNoHead r rejection

-- what a rewrite of a configuration by a file with costs comes to: the new text, or a rejection
abbrev pub IsRevised : Revision → Revised → Type 0
IsRevised r (Written text) = IsRewritten r text.items
IsRevised r (Rejected rejection) = IsUnfit r rejection

-- the cost lines of a text, where it has some, are so few that 32 bits number them
abbrev pub HasFewLines : Option (List CostLine) → Type 0
HasFewLines None = Unit {0}
HasFewLines (Some costs) = length costs < 2 ^ 32 - 1

-- a cost line was added to the others, and its interface to those that were seen, unless that was seen before
pub record AddsLine (old new : List CostLine) (seen_old seen_new : List (List ℕ)) (line : CostLine) : Type 0 where
  pub lines : new ≡ (if list_any (same_bytes line.interface) seen_old then old else old ++ line ∷ [])
  pub seen : seen_new ≡ (if list_any (same_bytes line.interface) seen_old then seen_old else seen_old ++ line.interface ∷ [])

-- what `rewrite` may write: the configuration with new costs; or that the file with costs is rejected
abbrev pub MayRewrite : Revision → Status → List ℕ → Type 0
MayRewrite revision status.Done bytes = IsRewritten revision bytes
MayRewrite revision status.EvidenceRefused bytes = (rejection : Rejection) × IsUnfit revision rejection × (bytes ≡ rejected_line rejection)
MayRewrite revision end bytes = ⊥

-- the report of what a rewrite came to: the new configuration, or the line of a rejection
abbrev pub ReportsRevised : Revised → Report → Type 0
ReportsRevised (Written text) report = Reports status.Done text.items report
ReportsRevised (Rejected rejection) report = Reports status.EvidenceRefused (rejected_line rejection) report
