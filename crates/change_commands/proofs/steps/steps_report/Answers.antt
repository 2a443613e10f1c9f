-- The network was read, then the text with the costs.
use Rattle.std.proofs.lemmas.Result.{err_from_is_err_and}
use Rattle.input_files.specs.declared.problem.View.TheVariants.{AtPresent}
use Rattle.input_files.specs.Networks.{IsNetworkOf}
use Rattle.input_files.specs.Outcomes.{outcome}
use Rattle.input_files.specs.Stops.{files_named}
use Rattle.input_files.proofs.Stops.{gave_stop, gave_then}
use Rattle.report_writer.specs.declared.report.Report.{Report}
use Rattle.report_writer.specs.Reports.{bytes_in}
use Rattle.change_commands.specs.WantedMoves.{steps_with}
use Rattle.change_commands.specs.Steps.{MaySteps}
use Rattle.change_commands.proofs.StepRuns.{at_present_costs}
use Rattle.change_commands.proofs.steps.steps_report.Goals as goal

pub returns-in_err-network : goal.returns-in_err-network
returns-in_err-network g c =
    let p = err_from_is_err_and c.from_residual.result c.from_residual.ensures.1 in
    rw (p.1, p.2) (gave_stop (g.S.Shelf.gave c.args.shelf.now c.read_network.new.shelf)
    (outcome AtPresent (files_named c.args.files)) (steps_with c.args.words.answer.now) _ c.in_err-network.ensures.read)

pub report_by_file-report-requires : goal.report_by_file-report-requires
report_by_file-report-requires g c =
    let read = c.in_ok-network.ensures.read.so in
    at_present_costs (files_named c.args.files) c.in_ok-network.network read.said read.fits

pub returns : goal.returns
returns g c =
    let a = c.args.shelf.now in
    let b = c.read_network.new.shelf in
    let d = c.report_by_file-report.new.shelf in
    let names = files_named c.args.files in
    gave_then (g.S.Shelf.gave a b) (g.S.Shelf.gave b d) (g.S.Shelf.gave a d) (outcome AtPresent names) (steps_with c.args.words.answer.now)
    (IsNetworkOf AtPresent names) (λ (report : Report) handed. MaySteps c.args.words.nodes c.args.words.by handed report.status (bytes_in report.text))
    c.in_ok-network.network c.report_by_file-report.result (g.met.S.Shelf.gave_more a b d) c.in_ok-network.ensures.read
    (λ x is. c.report_by_file-report.ensures names x is)
