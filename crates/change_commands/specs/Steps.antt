-- The text of `steps`, and what the command may write.
use Rattle.std.specs.Prelude.{◌≡◌, ℕ, ◌+◌, ◌⊎◌, List, [], ◌∷◌, ◌++◌, map, length, codes, slice_index, None, Some}
use Rattle.cost_base.specs.Decimal.{decimal}
use Rattle.cost_base.specs.declared.Status.{Status}
use Rattle.cost_base.specs.declared.Status.TheVariants as status
use Rattle.lsdb_build.specs.Graphs.{Database}
use Rattle.lsdb_build.specs.LinkNames.{link_interface, link_router}
use Rattle.design_problem.specs.declared.answer.CostLine.{CostLine}
use Rattle.design_problem.specs.Text.{spaced}
use Rattle.text_lines.specs.Lines.{with_ends}
use Rattle.evidence_reader.specs.Refusals.{IsOffGrammar}
use Rattle.sections_reader.specs.Texts.{SaysCosts, start_of_bytes}
use Rattle.change_steps.specs.declared.found.Barrier.{Barrier}
use Rattle.change_steps.specs.declared.found.Barrier.TheVariants.{Path, Untested}
use Rattle.change_steps.specs.declared.found.Blocked.{Blocked}
use Rattle.change_steps.specs.declared.found.Stuck.{Stuck}
use Rattle.change_steps.specs.declared.found.Outcome.{Outcome}
use Rattle.change_steps.specs.declared.found.Outcome.TheVariants.{Order, NoOrder, Undecided}
use Rattle.change_steps.specs.declared.found.Steps.{Steps}
use Rattle.change_steps.specs.Rollouts.{CostMoves, Rollout, variables_of_step}
use Rattle.change_steps.specs.Outcomes.{AreStepsFound}
use Rattle.command_words.specs.declared.job.StepUnit.{StepUnit}
use Rattle.command_words.specs.declared.job.StepUnit.TheVariants as unit
use Rattle.printed_parts.specs.SharedParts.{counted_line}
use Rattle.report_writer.specs.declared.rejection.Rejection.{Rejection}
use Rattle.report_writer.specs.declared.report.Report.{Report}
use Rattle.report_writer.specs.Reports.{Reports}
use Rattle.report_writer.specs.Texts.{rejected_line}
use Rattle.sections_reader.specs.declared.fault.CostsFault.{CostsFault}
use Rattle.sections_reader.specs.declared.fault.CostsFault.TheVariants.{NoCosts}
use Rattle.sections_reader.specs.FaultNumbers.{costs_fault_number}
use Rattle.change_commands.specs.WantedMoves.{StepsInput, first_line_fault, moves_of, rollout_of}

-- the number of the first link of a step
abbrev pub link_of_step : CostMoves → ℕ → ℕ
link_of_step m k = slice_index (variables_of_step m k) 0

-- the words that name a step: `ROUTER INTERFACE`, or `ROUTER`
abbrev pub step_name : StepUnit → Database → CostMoves → ℕ → List (List ℕ)
step_name unit.Line d m k = link_router d (link_of_step m k) ∷ link_interface d (link_of_step m k) ∷ []
step_name unit.Router d m k = link_router d (link_of_step m k) ∷ []

-- the words of what a step does: `OLD NEW`, or how many lines change
abbrev pub step_words : StepUnit → CostMoves → ℕ → List (List ℕ)
step_words unit.Line m k =
    decimal (slice_index m.present (link_of_step m k)) ∷ decimal (slice_index m.wanted (link_of_step m k)) ∷ []
step_words unit.Router m k = decimal (length (variables_of_step m k)) ∷ []

-- the line of a step: `step I ROUTER INTERFACE OLD NEW` or `step I ROUTER COUNT`, where I counts the lines from 0
abbrev pub step_line : StepUnit → Database → CostMoves → ℕ → ℕ → List ℕ
step_line by d m i k = spaced (codes "step" ∷ decimal i ∷ step_name by d m k ++ step_words by m k)

-- the lines of steps in `steps`' text, from line i on
abbrev pub step_lines_from : StepUnit → Database → CostMoves → ℕ → List ℕ → List (List ℕ)
step_lines_from by d m i [] = []
step_lines_from by d m i (k ∷ ks) = step_line by d m i k ∷ step_lines_from by d m (i + 1) ks

-- the part of `steps`' text with an order: `steps COUNT`, and a line for each step
abbrev pub steps_lines : StepUnit → Database → CostMoves → List ℕ → List (List ℕ)
steps_lines by d m order = spaced (codes "steps" ∷ decimal (length order) ∷ []) ∷ step_lines_from by d m 0 order

-- the word for what is in the way of a step: the number of the path that would be lost, or `untested`
abbrev pub barrier_word : Barrier → List ℕ
barrier_word (Path path) = decimal path
barrier_word Untested = codes "untested"

-- the line of a step that is blocked: `stuck ROUTER INTERFACE PATH` or `stuck ROUTER PATH`
abbrev pub stuck_line : StepUnit → Database → CostMoves → Blocked → List ℕ
stuck_line by d m blocked = spaced (codes "stuck" ∷ step_name by d m blocked.step ++ barrier_word blocked.by ∷ [])

-- the line `held COUNT I ..` with the numbers of the held paths
abbrev pub held_line : List ℕ → List ℕ
held_line held = counted_line (codes "held") held

-- the lines of a state from which no order goes on: the steps that were done, and what stops each other one
abbrev pub stuck_lines : StepUnit → Database → CostMoves → Stuck → List (List ℕ)
stuck_lines by d m stuck = steps_lines by d m stuck.done.items ++ map (stuck_line by d m) stuck.blocked.items

-- the lines of `steps`' text between its first and its last one: the verdict, the held paths and the steps
abbrev pub outcome_lines : StepUnit → Database → CostMoves → List ℕ → Outcome → List (List ℕ)
outcome_lines by d m held (Order order) = codes "verdict order" ∷ held_line held ∷ steps_lines by d m order.items
outcome_lines by d m held (NoOrder stuck) = codes "verdict none" ∷ held_line held ∷ stuck_lines by d m stuck
outcome_lines by d m held (Undecided stuck) = codes "verdict undecided" ∷ held_line held ∷ stuck_lines by d m stuck

-- the text of `steps` on what was found
abbrev pub steps_text : StepUnit → Database → CostMoves → Steps → List ℕ
steps_text by d m steps =
    with_ends (codes "ospfcost steps 1" ∷ outcome_lines by d m steps.held.items steps.outcome ++ codes "end" ∷ [])

-- the status of a run of `steps` that prints what was found
abbrev pub outcome_status : Outcome → Status
outcome_status (Order order) = status.Done
outcome_status (NoOrder stuck) = status.Impossible
outcome_status (Undecided stuck) = status.Undecided

-- the report is `steps`' text on what was found of a rollout, whose links have their names in this database
pub record ReportsSteps (nodes : ℕ) (by : StepUnit) (d : Database) (r : Rollout) (report : Report) : Type 0 where
  pub steps : Steps
  pub found : AreStepsFound r nodes steps
  pub reports : Reports (outcome_status steps.outcome) (steps_text by d r.moves steps) report

-- The bytes are the text of what was found of the steps, which has this status: those from the present costs to the
-- ones that the text says.
pub record ShowsSteps (nodes : ℕ) (by : StepUnit) (handed : StepsInput) (aim : Status) (bytes : List ℕ) : Type 0 where
  pub lines : List CostLine
  pub said : SaysCosts handed.bytes (Some lines)
  pub faultless : first_line_fault handed.input.database lines ≡ None
  pub steps : Steps
  pub found : AreStepsFound (rollout_of by handed.input lines) nodes steps
  pub status : outcome_status steps.outcome ≡ aim
  pub spelled : bytes ≡ steps_text by handed.input.database (moves_of by handed.input lines) steps

-- a text with the wanted costs is refused, since it says that there are none
pub record SaysNoCosts (bytes : List ℕ) (rejection : Rejection) : Type 0 where
  pub said : SaysCosts bytes None
  pub number : rejection.number ≡ costs_fault_number NoCosts
  pub place : rejection.place ≡ 0

-- a text with the wanted costs is refused, since a cost line names no linked interface, or that of an earlier line
pub record HasFaultyLine (handed : StepsInput) (rejection : Rejection) : Type 0 where
  pub lines : List CostLine
  pub said : SaysCosts handed.bytes (Some lines)
  pub fault : CostsFault
  pub first : first_line_fault handed.input.database lines ≡ Some fault
  pub number : rejection.number ≡ costs_fault_number fault
  pub place : rejection.place ≡ 0

-- why a text with the wanted costs is refused: it is off the grammar, says no costs, or has a faulty cost line
abbrev pub IsStepsInputRefused : StepsInput → Rejection → Type 0
IsStepsInputRefused handed rejection =
    IsOffGrammar (start_of_bytes handed.bytes) handed.bytes rejection.number rejection.place
    ⊎ SaysNoCosts handed.bytes rejection ⊎ HasFaultyLine handed rejection

-- what `steps` may write: a safe order; that there is none; that the budget was used up; or that the text is refused
abbrev pub MaySteps : ℕ → StepUnit → StepsInput → Status → List ℕ → Type 0
MaySteps nodes by handed status.Done bytes = ShowsSteps nodes by handed status.Done bytes
MaySteps nodes by handed status.Impossible bytes = ShowsSteps nodes by handed status.Impossible bytes
MaySteps nodes by handed status.Undecided bytes = ShowsSteps nodes by handed status.Undecided bytes
MaySteps nodes by handed status.EvidenceRefused bytes = (rejection : Rejection) × IsStepsInputRefused handed rejection × (bytes ≡ rejected_line rejection)
MaySteps nodes by handed other bytes = ⊥
