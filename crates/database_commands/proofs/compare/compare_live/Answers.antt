-- The live file was read, and compared with the network.
use Rattle.std.proofs.Common.{◌≡◌, ◌∙◌, List, Ok, refl, ap, subst}
use Rattle.std.proofs.lemmas.Result.{err_from_is_err_and}
use Rattle.request_reader.specs.Asked.{Asked}
use Rattle.input_files.specs.Readings.{Ready, Gave}
use Rattle.input_files.specs.Stops.{StopsAs, IsReadAndMade}
use Rattle.input_files.specs.declared.stop.Stop.TheVariants as stops
use Rattle.input_files.proofs.Stops.{gave_stop, gave_made, gave_wanting}
use Rattle.report_writer.specs.declared.report.Report.{Report}
use Rattle.report_writer.specs.Reports.{bytes_in}
use Rattle.lsa_bytes.specs.declared.Lsa.{Lsa}
use Rattle.live_input.specs.LiveReadings.{live_read}
use Rattle.database_commands.specs.Compares.{Comparison, MayCompare}
use Rattle.database_commands.proofs.Compares.{compared}
use Rattle.database_commands.proofs.compare.compare_live.Goals as goal

-- a report of what was read
abbrev Fits : Report → Comparison → Type 0
Fits report said = MayCompare said report.status (bytes_in report.text)

pub returns-in_err-database : goal.returns-in_err-database
returns-in_err-database g c = λ names x is.
    let given = g.S.Shelf.gave c.args.shelf.now c.read_live_file.new.shelf in
    let live = c.args.live.now in
    let p = err_from_is_err_and c.from_residual.result c.from_residual.ensures.1 in
    rw (p.1, p.2) (gave_stop given (live_read live x.asked.area) (λ lsas. Ready (record { input = x; live = lsas })) _
    (subst (λ area. Gave given (λ came. StopsAs (live_read live area) came c.in_err-database.field-0.0))
    (c.area_of.ensures ∙ ap (λ (asked : Asked). asked.area) is.request_file) c.in_err-database.ensures))

pub returns-in_err-report : goal.returns-in_err-report
returns-in_err-report g c = λ names x is.
    let given = g.S.Shelf.gave c.args.shelf.now c.read_live_file.new.shelf in
    let live = c.args.live.now in
    let p = err_from_is_err_and c.from_residual-in_err-report.result c.from_residual-in_err-report.ensures.1 in
    rw (p.1, p.2) (gave_stop given (live_read live x.asked.area) (λ lsas. Ready (record { input = x; live = lsas })) stops.OutOfMemory
    (gave_wanting given (live_read live x.asked.area) (λ (database : List Lsa) lsas. database ≡ lsas) c.in_ok-database.database
    (subst (λ area. Gave given (λ came. IsReadAndMade (live_read live area) came (λ (database : List Lsa) lsas. database ≡ lsas) c.in_ok-database.database))
    (c.area_of.ensures ∙ ap (λ (asked : Asked). asked.area) is.request_file) c.in_ok-database.ensures)))

pub returns : goal.returns
returns g c = λ names x is.
    let given = g.S.Shelf.gave c.args.shelf.now c.read_live_file.new.shelf in
    let live = c.args.live.now in
    gave_made given (live_read live x.asked.area) (λ lsas. Ready (record { input = x; live = lsas }))
    (λ (database : List Lsa) lsas. database ≡ lsas) Fits c.in_ok-database.database (Ok c.in_ok-report.report)
    (subst (λ area. Gave given (λ came. IsReadAndMade (live_read live area) came (λ (database : List Lsa) lsas. database ≡ lsas) c.in_ok-database.database))
    (c.area_of.ensures ∙ ap (λ (asked : Asked). asked.area) is.request_file) c.in_ok-database.ensures)
    (λ lsas same. record {
      said = record { input = x; live = lsas };
      ends = refl;
      fits = compared names c.args.network.now (record { input = x; live = lsas }) c.in_ok-database.database c.in_ok-report.report
          is same c.in_ok-report.ensures;
    })
