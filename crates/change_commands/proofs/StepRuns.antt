-- What `steps` made of the network and the text that it read.
use Rattle.std.proofs.Common.{◌≡◌, ℕ, ◌<◌, ◌≤◌, refl, sym, ◌∙◌, ap, subst, List, length, map, replicate, get_or, arith, inr, All, None, Some}
use Rattle.std.proofs.lemmas.List.{get_or-replicate, length-replicate}
use Rattle.cost_base.specs.declared.Status.{Status}
use Rattle.cost_base.specs.declared.Status.TheVariants.{EvidenceRefused}
use Rattle.area_graph.specs.declared.Edge.{Edge}
use Rattle.area_graph.specs.Costs.{IsPriced}
use Rattle.lsdb_build.specs.Graphs.{Database}
use Rattle.design_problem.specs.declared.answer.CostLine.{CostLine}
use Rattle.design_problem.specs.declared.problem.Request.{Request}
use Rattle.design_problem.specs.Problems.{DesignProblem, IsProblem}
use Rattle.rival_separation.specs.Askers.{ArePathsOf}
use Rattle.request_reader.specs.Asked.{Asked}
use Rattle.path_requests.specs.Meaning.{present_cost}
use Rattle.path_requests.specs.Resolving.{present_problem_of}
use Rattle.present_costs.specs.AtCosts.{graph_by_links}
use Rattle.present_costs.specs.PresentCosts.{present_of_links}
use Rattle.present_costs.proofs.ByLinks.{costs_fit, present_paths_by_links}
use Rattle.input_files.specs.declared.problem.View.TheVariants.{AtPresent}
use Rattle.input_files.specs.declared.network.Network.{Network}
use Rattle.input_files.specs.Inputs.{InputFiles}
use Rattle.input_files.specs.Networks.{IsNetworkOf}
use Rattle.input_files.specs.Outcomes.{Input}
use Rattle.input_files.proofs.PresentNetworks.{above_at_present, at_present}
use Rattle.command_words.specs.declared.job.StepUnit.{StepUnit}
use Rattle.change_steps.specs.Rollouts.{CostMoves, Rollout}
use Rattle.change_steps.specs.Outcomes.{AreStepsFound}
use Rattle.change_steps.specs.declared.found.Outcome.{Outcome}
use Rattle.change_steps.specs.declared.found.Outcome.TheVariants.{Order, NoOrder, Undecided}
use Rattle.sections_reader.specs.Texts.{SaysCosts}
use Rattle.report_writer.specs.declared.rejection.Rejection.{Rejection}
use Rattle.report_writer.specs.declared.report.Report.{Report}
use Rattle.report_writer.specs.Reports.{Reports, bytes_in}
use Rattle.report_writer.specs.Texts.{rejected_line}
use Rattle.sections_reader.specs.declared.fault.CostsFault.{CostsFault}
use Rattle.sections_reader.specs.FaultNumbers.{costs_fault_number}
use Rattle.change_commands.specs.WantedMoves.{IsAtPresent, IsStepsInputOf, StepsInput, first_line_fault, moves_between, moves_of, rollout_of, wanted_costs_in, with_lines}
use Rattle.change_commands.specs.Steps.{IsStepsInputRefused, MaySteps, ReportsSteps, ShowsSteps, outcome_status, steps_text}

-- The network.

-- a network that was read at present costs
pub at_present_costs : (names : InputFiles) (network : Network) (d : Input) → IsNetworkOf AtPresent names network d → IsAtPresent network
at_present_costs names network d is = record {
  above = subst (λ (cs : List ℕ). All (λ cost. 0 < cost) cs)
      (sym (ap (λ (a : Asked). map (present_cost a) network.lsdb.links) is.request_file
      ∙ ap (λ (x : Database). map (present_cost d.asked) x.links) is.lsdb))
      (above_at_present names d is.asked is.base is.resolved);
  problem = is.problem ∙ (at_present names d is.resolved).1
      ∙ sym (ap (λ (a : Asked). present_problem_of a network.lsdb) is.request_file ∙ ap (present_problem_of d.asked) is.lsdb);
}

-- and it is the one that `steps` was handed with a text
pub is_steps_input_of : (names : InputFiles) (network : Network) (d : Input) (bytes : List ℕ) → IsNetworkOf AtPresent names network d →
    IsStepsInputOf network (record { input = d; bytes = bytes })
is_steps_input_of names network d bytes is = record { request_file = is.request_file; lsdb = is.lsdb; problem = is.problem }

-- each link is a variable of the graph by links
pub priced_links : (d : Database) (n : ℕ) → n ≡ length d.links → All (λ (edge : Edge). IsPriced n edge.price) (graph_by_links d).edges
priced_links d n same =
    let ones : List ℕ = replicate n 1 in
    let one : ℕ = 1 in
    let count : length ones ≡ n = length-replicate n one in
    subst (λ m. All (λ (edge : Edge). IsPriced m edge.price) (graph_by_links d).edges) count
    (costs_fit d ones (count ∙ same) (λ k x within. each k x within (λ c. 0 < c) (omega arith))
    (λ k x within. each k x within (λ c. c ≤ 65535) (omega arith))).priced
  where
    each : (k x : ℕ) → k < length {A = ℕ} (replicate n 1) → (P : ℕ → Type 0) → P 1 → P (get_or {A = ℕ} (replicate n 1) k x)
    each k x within P here =
        let one : ℕ = 1 in
        subst P (sym (get_or-replicate n k one x (omega (arith, within, length-replicate n one)))) here

-- the wanted paths are paths of the graph by links
pub paths_by_links : (network : Network) → IsAtPresent network → IsProblem network.problem → ArePathsOf (graph_by_links network.lsdb) network.problem.requests
paths_by_links network is kept =
    subst (λ (p : DesignProblem). ArePathsOf (graph_by_links network.lsdb) p.requests) (sym is.problem)
    (present_paths_by_links network.request_file network.lsdb (subst IsProblem is.problem kept))

-- The report.

may_show : (nodes : ℕ) (by : StepUnit) (handed : StepsInput) (bytes : List ℕ) (outcome : Outcome) →
    ShowsSteps nodes by handed (outcome_status outcome) bytes → MaySteps nodes by handed (outcome_status outcome) bytes
may_show nodes by handed bytes (Order order) shows = shows
may_show nodes by handed bytes (NoOrder stuck) shows = shows
may_show nodes by handed bytes (Undecided stuck) shows = shows

abbrev rollout : Database → List Request → CostMoves → Rollout
rollout d requests moves = record { graph = graph_by_links d; requests = requests; moves = moves }

-- a faulty cost line refuses the text
pub faulty : (handed : StepsInput) (network : Network) (names : Database) (lines : List CostLine) (fault : CostsFault) (rejection : Rejection) →
    IsStepsInputOf network handed → SaysCosts handed.bytes (Some lines) → names ≡ network.lsdb → first_line_fault names lines ≡ Some fault →
    rejection.number ≡ costs_fault_number fault → rejection.place ≡ 0 → IsStepsInputRefused handed rejection
faulty handed network names lines fault rejection is said same first number place = inr (inr (record {
  lines = lines;
  said = said;
  fault = fault;
  first = sym (ap (λ (x : Database). first_line_fault x lines) (same ∙ is.lsdb)) ∙ first;
  number = number;
  place = place;
}))

-- a rejection of the text may be reported
pub refused_may : (nodes : ℕ) (by : StepUnit) (handed : StepsInput) (rejection : Rejection) (report : Report) → IsStepsInputRefused handed rejection →
    Reports EvidenceRefused (rejected_line rejection) report → MaySteps nodes by handed report.status (bytes_in report.text)
refused_may nodes by handed rejection report refused reports =
    subst (λ (s : Status). MaySteps nodes by handed s (bytes_in report.text)) (sym reports.status) (rejection, refused, reports.text)

-- what was found of the steps to the costs of the text
pub shown : (nodes : ℕ) (by : StepUnit) (handed : StepsInput) (network : Network) (lines : List CostLine) (names : Database)
    (present wanted : List ℕ) (moves : CostMoves) (report : Report) →
    IsStepsInputOf network handed → SaysCosts handed.bytes (Some lines) → names ≡ network.lsdb →
    present ≡ map (present_cost network.request_file) network.lsdb.links → first_line_fault names lines ≡ None →
    wanted ≡ with_lines names present lines → moves ≡ moves_between by names present wanted →
    ReportsSteps nodes by names (record { graph = graph_by_links network.lsdb; requests = network.problem.requests; moves = moves }) report →
    MaySteps nodes by handed report.status (bytes_in report.text)
shown nodes by handed network lines names present wanted moves report is said same present_are faultless wanted_are moves_made reports =
    let d = handed.input in
    let names_are : names ≡ d.database = same ∙ is.lsdb in
    let present_is : present ≡ present_of_links d.asked d.database = present_are
    ∙ ap (λ (a : Asked). map (present_cost a) network.lsdb.links) is.request_file
    ∙ ap (λ (x : Database). map (present_cost d.asked) x.links) is.lsdb in
    let wanted_is : wanted ≡ wanted_costs_in d lines = wanted_are
    ∙ ap (λ (x : Database). with_lines x present lines) names_are
    ∙ ap (λ (costs : List ℕ). with_lines d.database costs lines) present_is in
    let moves_are : moves ≡ moves_of by d lines = moves_made
    ∙ ap (λ (x : Database). moves_between by x present wanted) names_are
    ∙ ap (λ (costs : List ℕ). moves_between by d.database costs wanted) present_is
    ∙ ap (moves_between by d.database (present_of_links d.asked d.database)) wanted_is in
    let rollout_is : rollout network.lsdb network.problem.requests moves ≡ rollout_of by d lines =
    ap (λ (x : Database). rollout x network.problem.requests moves) is.lsdb
    ∙ ap (λ (p : DesignProblem). rollout d.database p.requests moves) is.problem
    ∙ ap (rollout d.database d.problem.requests) moves_are in
    subst (λ (s : Status). MaySteps nodes by handed s (bytes_in report.text)) (sym reports.reports.status)
    (may_show nodes by handed (bytes_in report.text) reports.steps.outcome (record {
      lines = lines;
      said = said;
      faultless = sym (ap (λ (x : Database). first_line_fault x lines) names_are) ∙ faultless;
      steps = reports.steps;
      found = subst (λ (r : Rollout). AreStepsFound r nodes reports.steps) rollout_is reports.found;
      status = refl;
      spelled = reports.reports.text ∙ ap (λ (x : Database). steps_text by x moves reports.steps) names_are
          ∙ ap (λ (m : CostMoves). steps_text by d.database m reports.steps) moves_are;
    }))
