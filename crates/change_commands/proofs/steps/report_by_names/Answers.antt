-- The costs of the lines were put into their places, and the steps to them were looked at.
use Rattle.std.proofs.Common.{◌≡◌, ◌∙◌, ◌<◌, ℕ, List, Result, Ok, Err, None, Some, refl, sym, ap, subst, length, All}
use Rattle.std.specs.Prelude.{MatchResult, Vec}
use Rattle.std.specs.declared.alloc.Global.{Global}
use Rattle.std.proofs.lemmas.List.{length-map}
use Rattle.std.proofs.lemmas.Result.{IfOk-weaker}
use Rattle.design_problem.specs.declared.answer.CostLine.{CostLine}
use Rattle.lsdb_build.specs.Graphs.{Database}
use Rattle.path_requests.specs.Meaning.{present_cost}
use Rattle.report_writer.specs.declared.rejection.Rejection.{Rejection}
use Rattle.report_writer.specs.declared.report.Report.{Report}
use Rattle.report_writer.specs.Reports.{bytes_in}
use Rattle.present_costs.specs.AtCosts.{graph_by_links}
use Rattle.sections_reader.specs.declared.fault.CostsFault.{CostsFault}
use Rattle.change_commands.specs.WantedMoves.{IsStepsInputOf, StepsInput, first_line_fault, moves_between, with_lines}
use Rattle.change_commands.specs.Steps.{MaySteps, ReportsSteps}
use Rattle.sections_reader.specs.Texts.{SaysCosts}
use Rattle.change_commands.proofs.WantedMoveLaws.{lines_above, lines_length}
use Rattle.change_commands.proofs.StepRuns.{faulty, refused_may, shown}
use Rattle.change_commands.proofs.steps.report_by_names.Goals as goal

-- what was made of the lines
wanted : (names : Database) (costs : List ℕ) (lines : List CostLine) (r : Result (Vec ℕ Global) CostsFault) (made : Vec ℕ Global) → r ≡ Ok made →
    MatchResult r (λ w. (first_line_fault names lines ≡ None) × (w.items ≡ with_lines names costs lines)) (λ fault. first_line_fault names lines ≡ Some fault) →
    (first_line_fault names lines ≡ None) × (made.items ≡ with_lines names costs lines)
wanted names costs lines r made is tells =
    subst (λ (x : Result (Vec ℕ Global) CostsFault). MatchResult x (λ w. (first_line_fault names lines ≡ None) × (w.items ≡ with_lines names costs lines))
    (λ fault. first_line_fault names lines ≡ Some fault)) is tells

-- or what is wrong with the first faulty one
at_fault : (names : Database) (costs : List ℕ) (lines : List CostLine) (r : Result (Vec ℕ Global) CostsFault) (fault : CostsFault) → r ≡ Err fault →
    MatchResult r (λ w. (first_line_fault names lines ≡ None) × (w.items ≡ with_lines names costs lines)) (λ f. first_line_fault names lines ≡ Some f) →
    first_line_fault names lines ≡ Some fault
at_fault names costs lines r fault is tells =
    subst (λ (x : Result (Vec ℕ Global) CostsFault). MatchResult x (λ w. (first_line_fault names lines ≡ None) × (w.items ≡ with_lines names costs lines))
    (λ f. first_line_fault names lines ≡ Some f)) is tells

pub report_of_wanted-requires-clause-wanted : goal.report_of_wanted-requires-clause-wanted
report_of_wanted-requires-clause-wanted c =
    let names = c.args.names.now in
    ap length (wanted names c.deref.result.now c.args.lines.now c.in_ok-wanted.field-0 c.in-Ok.wanted c.in-Ok.is c.in_ok-wanted.ensures).1 ∙
    lines_length names c.deref.result.now c.args.lines.now
    ∙ ap length (c.deref.ensures.value ∙ c.in_ok-present.ensures) ∙ length-map c.args.network.now.lsdb.links (present_cost c.args.network.now.request_file)
    ∙ sym (ap (λ (d : Database). length d.links) c.requires.names)

pub report_of_wanted-requires-clause-positive : goal.report_of_wanted-requires-clause-positive
report_of_wanted-requires-clause-positive c =
    let names = c.args.names.now in
    subst (λ (cs : List ℕ). All (λ cost. 0 < cost) cs) (sym (wanted names c.deref.result.now c.args.lines.now c.in_ok-wanted.field-0 c.in-Ok.wanted c.in-Ok.is
    c.in_ok-wanted.ensures).1)
    (lines_above names c.deref.result.now c.args.lines.now
    (subst (λ (cs : List ℕ). All (λ cost. 0 < cost) cs) (sym (c.deref.ensures.value ∙ c.in_ok-present.ensures)) c.requires.network.above) c.requires.lines)

pub returns-in-Ok : goal.returns-in-Ok
returns-in-Ok c =
    let names = c.args.names.now in
    let lines = c.args.lines.now in
    let present = c.in_ok-present.present.items in
    let w = wanted names c.deref.result.now lines c.in_ok-wanted.field-0 c.in-Ok.wanted c.in-Ok.is c.in_ok-wanted.ensures in
    let network = c.args.network.now in
    let moves = moves_between c.args.words.by names present c.in-Ok.wanted.items in
    IfOk-weaker c.report_of_wanted.result
    (λ (report : Report). ReportsSteps c.args.words.nodes c.args.words.by names
    (record { graph = graph_by_links network.lsdb; requests = network.problem.requests; moves = moves }) report)
    (λ (report : Report). (handed : StepsInput) → IsStepsInputOf network handed → SaysCosts handed.bytes (Some lines) →
    MaySteps c.args.words.nodes c.args.words.by handed report.status (bytes_in report.text))
    (λ report reports handed is said.
    shown c.args.words.nodes c.args.words.by handed network lines names present c.in-Ok.wanted.items moves report is said c.requires.names
    c.in_ok-present.ensures w.0 (w.1 ∙ ap (λ (ps : List ℕ). with_lines names ps lines) c.deref.ensures.value) refl reports)
    c.report_of_wanted.ensures

pub returns-in-Err : goal.returns-in-Err
returns-in-Err c =
    let names = c.args.names.now in
    let lines = c.args.lines.now in
    let network = c.args.network.now in
    IfOk-weaker c.rejected.result _ _
    (λ report reports handed is said. refused_may c.args.words.nodes c.args.words.by handed c.at.result report
    (faulty handed network names lines c.in-Err.fault c.at.result is said c.requires.names
    (at_fault names c.deref.result.now lines c.in_ok-wanted.field-0 c.in-Err.fault c.in-Err.is c.in_ok-wanted.ensures)
    (ap (λ (r : Rejection). r.number) c.at.ensures) (ap (λ (r : Rejection). r.place) c.at.ensures)) reports)
    c.rejected.ensures
