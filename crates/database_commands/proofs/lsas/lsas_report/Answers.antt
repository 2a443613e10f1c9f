-- The network was read, and its LSAs were written.
use Rattle.input_files.specs.Stops.{files_named}
use Rattle.database_commands.specs.Lsas.{identified_read}
use Rattle.database_commands.proofs.LsasRuns.{ended}
use Rattle.database_commands.proofs.lsas.lsas_report.Goals as goal

pub report_of-report-requires : goal.report_of-report-requires
report_of-report-requires g c =
    let read = c.in_ok-network.ensures.so in
    record { names = files_named c.args.words; said = read.said; is = read.fits }

pub returns : goal.returns
returns g c =
    let names = files_named c.args.words in
    ended (g.S.Shelf.gave c.args.shelf.now c.read_identified.new.shelf) (identified_read names) names c.in_ok-network.network
    c.report_of-report.result c.in_ok-network.ensures c.report_of-report.ensures.made c.report_of-report.ensures.wanting
