-- The problem was read, then the sets, and what was found of them is told.
use Rattle.std.proofs.lemmas.Result.{err_from_is_err_and}
use Rattle.wide_fraction.specs.SearchLimits.{limits_seen}
use Rattle.input_files.specs.declared.problem.View.TheVariants.{AsRequested}
use Rattle.input_files.specs.Outcomes.{outcome}
use Rattle.input_files.specs.Stops.{files_named}
use Rattle.input_files.proofs.Stops.{gave_stop, gave_then}
use Rattle.report_writer.specs.declared.report.Report.{Report}
use Rattle.report_writer.specs.Reports.{bytes_in}
use Rattle.path_commands.specs.SetFiles.{Sharing, sets_read}
use Rattle.path_commands.specs.Spreads.{MaySpread}
use Rattle.path_commands.specs.SpreadsMade.{IsProblemAsked}
use Rattle.path_commands.proofs.SpreadRuns.{problem_asked}
use Rattle.path_commands.proofs.spread.spread_report.Goals as goal

pub returns-in_err-problem : goal.returns-in_err-problem
returns-in_err-problem g c =
    let file = c.args.sets.now in
    let e = err_from_is_err_and c.from_residual.result c.from_residual.ensures.1 in
    rw (e.1, e.2) (gave_stop (g.S.Shelf.gave c.args.shelf.now c.read_problem.new.shelf)
    (outcome AsRequested (files_named c.args.words)) (λ d. sets_read file d) _
    c.in_err-problem.ensures.read)

pub returns : goal.returns
returns g c =
    let file = c.args.sets.now in
    let a = c.args.shelf.now in
    let b = c.read_problem.new.shelf in
    let d = c.report_by_file-report.new.shelf in
    let limits = limits_seen c.args.limits.now in
    let names = files_named c.args.words in
    let p = c.in_ok-problem.problem in
    gave_then (g.S.Shelf.gave a b) (g.S.Shelf.gave b d) (g.S.Shelf.gave a d) (outcome AsRequested names) (λ x. sets_read file x)
    (IsProblemAsked names) (λ (made : Report) (sharing : Sharing). MaySpread limits sharing made.status (bytes_in made.text))
    p c.report_by_file-report.result (g.met.S.Shelf.gave_more a b d) (problem_asked (g.S.Shelf.gave a b) names p c.in_ok-problem.ensures.read)
    (λ x is. c.report_by_file-report.ensures names x is)
