-- The network was read, then the live file.
use Rattle.std.proofs.lemmas.Result.{err_from_is_err_and}
use Rattle.input_files.specs.Stops.{files_named}
use Rattle.input_files.proofs.Stops.{gave_stop, gave_then}
use Rattle.report_writer.specs.declared.report.Report.{Report}
use Rattle.report_writer.specs.Reports.{bytes_in}
use Rattle.database_commands.specs.Compares.{MayCompare}
use Rattle.database_commands.specs.Compared.{live_then}
use Rattle.database_commands.specs.Identified.{IsIdentified}
use Rattle.database_commands.specs.Lsas.{identified_read}
use Rattle.database_commands.proofs.compare.compare_report.Goals as goal

pub returns-in_err-network : goal.returns-in_err-network
returns-in_err-network g c =
    let p = err_from_is_err_and c.from_residual.result c.from_residual.ensures.1 in
    rw (p.1, p.2) (gave_stop (g.S.Shelf.gave c.args.shelf.now c.read_identified.new.shelf)
    (identified_read (files_named c.args.words)) (live_then c.args.live.now) _ c.in_err-network.ensures)

pub returns : goal.returns
returns g c =
    let a = c.args.shelf.now in
    let b = c.read_identified.new.shelf in
    let d = c.compare_live-report.new.shelf in
    let names = files_named c.args.words in
    gave_then (g.S.Shelf.gave a b) (g.S.Shelf.gave b d) (g.S.Shelf.gave a d) (identified_read names) (live_then c.args.live.now)
    (IsIdentified names) (λ (report : Report) said. MayCompare said report.status (bytes_in report.text)) c.in_ok-network.network
    c.compare_live-report.result (g.met.S.Shelf.gave_more a b d) c.in_ok-network.ensures
    (λ x fits. c.compare_live-report.ensures names x fits.network_is)
