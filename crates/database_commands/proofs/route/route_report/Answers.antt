-- The LSAs were read, both routers were found, and the line was made.
use Rattle.std.proofs.Common.{◌≡◌, ◌∙◌, List, Ok, Err}
use Rattle.std.proofs.lemmas.Result.{err_from_is_err_and}
use Rattle.input_files.specs.declared.stop.Stop.TheVariants as stops
use Rattle.input_files.specs.Readings.{Ready}
use Rattle.input_files.proofs.Stops.{gave_stop, gave_made, gave_wanting}
use Rattle.report_writer.specs.declared.report.Report.{Report}
use Rattle.report_writer.specs.Reports.{bytes_in}
use Rattle.lsa_bytes.specs.declared.Lsa.{Lsa}
use Rattle.live_input.specs.LsaFiles.{lsas_read}
use Rattle.database_commands.specs.Routes.{MayRoute, unless_unknown}
use Rattle.database_commands.proofs.Routes.{unknown_start, unknown_end, routed}
use Rattle.database_commands.proofs.route.route_report.Goals as goal

pub returns-in_err-database : goal.returns-in_err-database
returns-in_err-database g c =
    let file = c.args.lsas.now in
    let p = err_from_is_err_and c.from_residual.result c.from_residual.ensures.1 in
    rw (p.1, p.2) (gave_stop (g.S.Shelf.gave c.args.shelf.now c.read_database.new.shelf) (lsas_read file)
    (λ lsas. unless_unknown file c.args.from 0 lsas (unless_unknown file c.args.to 1 lsas (Ready lsas))) _
    c.in_err-database.ensures)

pub returns-in_err-check_router : goal.returns-in_err-check_router
returns-in_err-check_router g c =
    let file = c.args.lsas.now in
    let p = err_from_is_err_and c.from_residual-in_err-check_router.result c.from_residual-in_err-check_router.ensures.1 in
    rw (p.1, p.2) (gave_made (g.S.Shelf.gave c.args.shelf.now c.read_database.new.shelf) (lsas_read file)
    (λ lsas. unless_unknown file c.args.from 0 lsas (unless_unknown file c.args.to 1 lsas (Ready lsas)))
    (λ (database : List Lsa) lsas. database ≡ lsas)
    (λ (r : Report) said. MayRoute c.args.from c.args.to said r.status (bytes_in r.text)) c.in_ok-database.database
    (Err c.in_err-check_router.field-0.0) c.in_ok-database.ensures
    (λ lsas same. unknown_start file c.args.from c.args.to lsas c.as_slice.result.now _ (c.as_slice.ensures.items ∙ same) c.in_err-check_router.ensures))

pub returns-in_err-check_router-2 : goal.returns-in_err-check_router-2
returns-in_err-check_router-2 g c =
    let file = c.args.lsas.now in
    let p = err_from_is_err_and c.from_residual-in_err-check_router-2.result c.from_residual-in_err-check_router-2.ensures.1 in
    rw (p.1, p.2) (gave_made (g.S.Shelf.gave c.args.shelf.now c.read_database.new.shelf) (lsas_read file)
    (λ lsas. unless_unknown file c.args.from 0 lsas (unless_unknown file c.args.to 1 lsas (Ready lsas)))
    (λ (database : List Lsa) lsas. database ≡ lsas)
    (λ (r : Report) said. MayRoute c.args.from c.args.to said r.status (bytes_in r.text)) c.in_ok-database.database
    (Err c.in_err-check_router-2.field-0.0) c.in_ok-database.ensures
    (λ lsas same. unknown_end file c.args.from c.args.to lsas c.as_slice.result.now c.as_slice-2.result.now _
    (c.as_slice.ensures.items ∙ same) (c.as_slice-2.ensures.items ∙ same) c.in_ok-check_router.ensures
    c.in_err-check_router-2.ensures))

pub returns-in_err-line : goal.returns-in_err-line
returns-in_err-line g c =
    let file = c.args.lsas.now in
    let p = err_from_is_err_and c.from_residual-in_err-line.result c.from_residual-in_err-line.ensures.1 in
    rw (p.1, p.2) (gave_stop (g.S.Shelf.gave c.args.shelf.now c.read_database.new.shelf) (lsas_read file)
    (λ lsas. unless_unknown file c.args.from 0 lsas (unless_unknown file c.args.to 1 lsas (Ready lsas))) stops.OutOfMemory
    (gave_wanting _ _ _ _ c.in_ok-database.ensures))

pub returns : goal.returns
returns g c =
    let file = c.args.lsas.now in
    gave_made (g.S.Shelf.gave c.args.shelf.now c.read_database.new.shelf) (lsas_read file)
    (λ lsas. unless_unknown file c.args.from 0 lsas (unless_unknown file c.args.to 1 lsas (Ready lsas)))
    (λ (database : List Lsa) lsas. database ≡ lsas)
    (λ (r : Report) said. MayRoute c.args.from c.args.to said r.status (bytes_in r.text)) c.in_ok-database.database
    (Ok c.made.result) c.in_ok-database.ensures
    (λ lsas same. routed file c.args.from c.args.to lsas c.as_slice.result.now c.as_slice-2.result.now
    c.in_ok-database.database c.in_ok-line.line.items c.made.result (c.as_slice.ensures.items ∙ same)
    (c.as_slice-2.ensures.items ∙ same) same
    c.in_ok-check_router.ensures c.in_ok-check_router-2.ensures c.in_ok-line.ensures c.made.ensures)
