-- The layout was read, then the live file, and what was found is told.
use Rattle.std.proofs.Common.{subst, ◌≡◌, ℕ, List}
use Rattle.std.proofs.lemmas.Result.{err_from_is_err_and}
use Rattle.lsa_bytes.specs.declared.Lsa.{Lsa}
use Rattle.live_input.specs.LiveReadings.{live_read}
use Rattle.input_files.specs.Layouts.{layout_read}
use Rattle.input_files.specs.Readings.{Gave}
use Rattle.input_files.specs.Stops.{StopsAs, IsReadAndMade, files_named}
use Rattle.input_files.proofs.Stops.{gave_stop}
use Rattle.path_commands.proofs.LiveAuditRuns.{after_layout, live_stops, live_made}
use Rattle.path_commands.proofs.audit_live.audit_live_report.Goals as goal

pub returns-in_err-layout : goal.returns-in_err-layout
returns-in_err-layout g c =
    let p = err_from_is_err_and c.from_residual.result c.from_residual.ensures.1 in
    rw (p.1, p.2) (gave_stop (g.S.Shelf.gave c.args.shelf.now c.read_layout.new.shelf) (layout_read (files_named c.args.words))
    (after_layout (files_named c.args.words) c.args.live.now) _ c.in_err-layout.ensures)

pub returns-in-Err : goal.returns-in-Err
returns-in-Err g c =
    let a = c.args.shelf.now in
    let b = c.read_layout.new.shelf in
    let d = c.read_live_file.new.shelf in
    live_stops (g.S.Shelf.gave a b) (g.S.Shelf.gave b d) (g.S.Shelf.gave a d) (files_named c.args.words) c.args.live.now
    c.in_ok-layout.layout _ (g.met.S.Shelf.gave_more a b d) c.in_ok-layout.ensures
    (subst (λ (area : ℕ). Gave (g.S.Shelf.gave b d) (λ came. StopsAs (live_read c.args.live.now area) came c.in-Err.stop))
    c.area_of.ensures c.in-Err.ensures)

pub returns-in-Ok : goal.returns-in-Ok
returns-in-Ok g c =
    let a = c.args.shelf.now in
    let b = c.read_layout.new.shelf in
    let d = c.read_live_file.new.shelf in
    live_made (g.S.Shelf.gave a b) (g.S.Shelf.gave b d) (g.S.Shelf.gave a d) (files_named c.args.words) c.args.live.now
    c.in_ok-layout.layout c.in-Ok.lsas c.report_of_running.result (g.met.S.Shelf.gave_more a b d) c.in_ok-layout.ensures
    (subst (λ (area : ℕ). Gave (g.S.Shelf.gave b d)
    (λ came. IsReadAndMade (live_read c.args.live.now area) came (λ (made : List Lsa) lsas. made ≡ lsas) c.in-Ok.lsas))
    c.area_of.ensures c.in-Ok.ensures)
    c.report_of_running.ensures
