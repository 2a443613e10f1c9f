-- The steps that a text's cost lines make of the present costs.
use Rattle.std.specs.Prelude.{◌≡◌, ℕ, ◌<◌, ◌==◌, not, if◌then◌else◌, Bool, List, [], ◌∷◌, map, filter, length, slice_index, slice_set, Option, None, Some, All}
use Rattle.std.specs.List.{filter_map, list_any}
use Rattle.cost_base.specs.Lists.{numbers_from}
use Rattle.lsdb_build.specs.declared.Linked.{Linked}
use Rattle.lsdb_build.specs.Graphs.{Database, router_of}
use Rattle.design_problem.specs.declared.answer.CostLine.{CostLine}
use Rattle.wanted_paths.specs.Paths.{link_number}
use Rattle.wanted_paths.specs.Resolution.{knows_link}
use Rattle.path_requests.specs.Resolving.{present_problem_of}
use Rattle.present_costs.specs.AtCosts.{graph_by_links}
use Rattle.present_costs.specs.PresentCosts.{present_of_links}
use Rattle.change_steps.specs.Rollouts.{CostMoves, Rollout}
use Rattle.command_words.specs.declared.job.StepUnit.{StepUnit}
use Rattle.command_words.specs.declared.job.StepUnit.TheVariants as unit
use Rattle.sections_reader.specs.declared.fault.CostsFault.{CostsFault}
use Rattle.sections_reader.specs.declared.fault.CostsFault.TheVariants.{NoInterface, LineTwice}
use Rattle.input_files.specs.declared.problem.View.TheVariants.{AtPresent}
use Rattle.input_files.specs.declared.network.Network.{Network}
use Rattle.input_files.specs.Inputs.{InputFiles}
use Rattle.input_files.specs.Outcomes.{Input, file_read, longest_answer, outcome}
use Rattle.input_files.specs.Readings.{Reading, Ready, ◌>>=◌}

-- what `steps` is handed: the network at present, and the bytes of a text with the wanted costs
pub record StepsInput : Type 0 where
  pub input : Input
  pub bytes : List ℕ

-- what the files of `steps` say, read in their order: those of an audit, and then the text with the costs
abbrev pub steps_read : InputFiles → List ℕ → Reading StepsInput
steps_read names answer =
    outcome AtPresent names >>= λ d.
    file_read longest_answer answer >>= λ bytes.
    Ready (record { input = d; bytes = bytes })

-- what the text with the costs says behind the files of an audit. No public clause cites it
abbrev pub steps_with : List ℕ → Input → Reading StepsInput
steps_with answer d = file_read longest_answer answer >>= λ bytes. Ready (record { input = d; bytes = bytes })

-- the network is one at present costs: they are above 0, and its problem is the one that they make
pub record IsAtPresent (network : Network) : Type 0 where
  pub above : All (λ cost. 0 < cost) (present_of_links network.request_file network.lsdb)
  pub problem : network.problem ≡ present_problem_of network.request_file network.lsdb

-- the network has the requests, the database and the problem of what `steps` was handed
pub record IsStepsInputOf (network : Network) (handed : StepsInput) : Type 0 where
  pub request_file : network.request_file ≡ handed.input.asked
  pub lsdb : network.lsdb ≡ handed.input.database
  pub problem : network.problem ≡ handed.input.problem

-- the number of the linked interface that a cost line names
abbrev pub link_of_line : Database → CostLine → ℕ
link_of_line d line = link_number d line.router line.interface

-- what is wrong with a cost line that comes after lines of these links
abbrev pub line_fault : Database → List ℕ → CostLine → Option CostsFault
line_fault d before line =
    if knows_link d line.router line.interface then (if list_any (λ l. l == link_of_line d line) before then Some LineTwice else None)
    else Some NoInterface

-- the first of two faults of cost lines, where there is one
abbrev pub or_first : Option CostsFault → Option CostsFault → Option CostsFault
or_first None later = later
or_first (Some fault) later = Some fault

-- the first thing that is wrong with cost lines that come after lines of these links
abbrev pub first_fault_after : Database → List ℕ → List CostLine → Option CostsFault
first_fault_after d before [] = None
first_fault_after d before (line ∷ lines) = or_first (line_fault d before line) (first_fault_after d (link_of_line d line ∷ before) lines)

-- the first thing that is wrong with the cost lines of a text
abbrev pub first_line_fault : Database → List CostLine → Option CostsFault
first_line_fault d lines = first_fault_after d [] lines

-- these costs of the links, but for those that cost lines name: theirs are the lines'
abbrev pub with_lines : Database → List ℕ → List CostLine → List ℕ
with_lines d costs [] = costs
with_lines d costs (line ∷ lines) = with_lines d (slice_set costs (link_of_line d line) line.cost) lines

-- the wanted costs of the links: those of a text's cost lines, and else the present ones
abbrev pub wanted_costs_in : Input → List CostLine → List ℕ
wanted_costs_in d lines = with_lines d.database (present_of_links d.asked d.database) lines

-- whether the link of this number gets another cost
abbrev pub is_moved : List ℕ → List ℕ → ℕ → Bool
is_moved present wanted l = not (slice_index wanted l == slice_index present l)

-- the links that get another cost, in order
abbrev pub moved_links : List ℕ → List ℕ → List ℕ
moved_links present wanted = filter (is_moved present wanted) (numbers_from 0 (length present))

-- those of some links that are a router's
abbrev pub links_of_router : List Linked → List ℕ → ℕ → List ℕ
links_of_router links moved router = filter (λ l. router_of links l == router) moved

-- a list, where it isn't empty
abbrev pub if_some : List ℕ → Option (List ℕ)
if_some [] = None
if_some (l ∷ ls) = Some (l ∷ ls)

-- the steps router by router: for each of these routers that has some of the moved links one step with all of them
abbrev pub router_steps : List Linked → List ℕ → List ℕ → List (List ℕ)
router_steps links moved routers = filter_map (λ router. if_some (links_of_router links moved router)) routers

-- the steps of moved links: each link alone, in order; or all of a router at once, in the order of the configurations
abbrev pub steps_of : StepUnit → Database → List ℕ → List (List ℕ)
steps_of unit.Line d moved = map (λ l. l ∷ []) moved
steps_of unit.Router d moved = router_steps d.links moved (numbers_from 0 (length d.routers))

-- the moves from present costs of the links to wanted ones: both lists of costs, and the steps between them
abbrev pub moves_between : StepUnit → Database → List ℕ → List ℕ → CostMoves
moves_between by d present wanted = record { present = present; wanted = wanted; steps = steps_of by d (moved_links present wanted) }

-- the moves from the present costs of an input's links to those that cost lines say
abbrev pub moves_of : StepUnit → Input → List CostLine → CostMoves
moves_of by d lines = moves_between by d.database (present_of_links d.asked d.database) (wanted_costs_in d lines)

-- the rollout from present costs to those of cost lines; in its graph each linked interface has a variable of its own
abbrev pub rollout_of : StepUnit → Input → List CostLine → Rollout
rollout_of by d lines = record { graph = graph_by_links d.database; requests = d.problem.requests; moves = moves_of by d lines }
