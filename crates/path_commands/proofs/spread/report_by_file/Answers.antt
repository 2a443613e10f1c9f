-- The sets were read, and what was found of them is told.
use Rattle.std.proofs.lemmas.Result.{err_from_is_err_and}
use Rattle.wide_fraction.specs.SearchLimits.{limits_seen}
use Rattle.input_files.proofs.ReadyInputs.{ready_is}
use Rattle.input_files.proofs.Stops.{gave_wanting}
use Rattle.path_commands.specs.SetFiles.{sets_read}
use Rattle.path_commands.proofs.SpreadRuns.{AreSetsFor, spread_found}
use Rattle.path_commands.proofs.spread.report_by_file.Goals as goal

pub returns-in_err-sets : goal.returns-in_err-sets
returns-in_err-sets g c = λ names d is.
    let e = err_from_is_err_and c.from_residual.result c.from_residual.ensures.1 in
    rw (e.1, e.2) (c.in_err-sets.ensures.read d is.same)

pub returns-in_err-report : goal.returns-in_err-report
returns-in_err-report g c = λ names d is.
    let e = err_from_is_err_and c.from_residual-in_err-report.result c.from_residual-in_err-report.ensures.1 in
    rw (e.1, e.2) (gave_wanting (g.S.Shelf.gave c.args.shelf.now c.read_sets_file.new.shelf) (sets_read c.args.sets.now d) (AreSetsFor d)
    c.in_ok-sets.sets (c.in_ok-sets.ensures.read d is.same))

pub returns : goal.returns
returns g c = λ names d is.
    let made = c.in_ok-report.ensures in
    spread_found (g.S.Shelf.gave c.args.shelf.now c.read_sets_file.new.shelf) (limits_seen c.args.limits.now) c.args.sets.now d
    c.args.problem.now c.in_ok-sets.sets made.spread c.in_ok-report.field-0 (is.same, ready_is names d is.came is.ends) made.bound_small
    (c.in_ok-sets.ensures.read d is.same) made.found made.reports
