-- What is found of the problem that was read is told.
use Rattle.std.proofs.Common.{refl, inl, inr}
use Rattle.wide_fraction.specs.SearchLimits.{limits_seen}
use Rattle.std.proofs.lemmas.Result.{err_from_is_err_and}
use Rattle.input_files.specs.Stops.{files_named}
use Rattle.input_files.proofs.Stops.{gave_wanting}
use Rattle.form_search.proofs.AdvisorLaws.{left_alike}
use Rattle.path_commands.proofs.ConflictRuns.{conflict_found}
use Rattle.path_commands.proofs.conflict.conflict_report.Goals as goal

pub returns-in_err-problem-clause-advisors : goal.returns-in_err-problem-clause-advisors
returns-in_err-problem-clause-advisors g c = left_alike _ _ _ refl

pub report_of_conflict-report-requires : goal.report_of_conflict-report-requires
report_of_conflict-report-requires g c =
    let limits = c.args.limits.now in
    (limits.top, limits.nodes, limits.budget_end, c.in_ok-conflict.ensures.found)

pub returns-in_err-conflict-clause-read : goal.returns-in_err-conflict-clause-read
returns-in_err-conflict-clause-read g c =
    let p = err_from_is_err_and c.from_residual-in_err-conflict.result c.from_residual-in_err-conflict.ensures.1 in
    rw (p.1, p.2) (gave_wanting _ _ _ _ c.in_ok-problem.ensures.read)

pub returns-in_err-report-clause-read : goal.returns-in_err-report-clause-read
returns-in_err-report-clause-read g c =
    let p = err_from_is_err_and c.from_residual-in_err-report.result c.from_residual-in_err-report.ensures.1 in
    rw (p.1, p.2) (gave_wanting _ _ _ _ c.in_ok-problem.ensures.read)

pub returns-clause-read : goal.returns-clause-read
returns-clause-read g c =
    conflict_found (g.S.Shelf.gave c.args.shelf.now c.read_problem.new.shelf) (limits_seen c.args.limits.now)
    (files_named c.args.words) c.in_ok-problem.problem c.in_ok-conflict.conflict c.in_ok-report.field-0 _
    c.in_ok-problem.ensures.read
    c.in_ok-conflict.ensures.found c.in_ok-report.ensures (λ d same. rw same c.in_ok-conflict.ensures.asked)

pub returns-in_err-problem-clause-stopped : goal.returns-in_err-problem-clause-stopped
returns-in_err-problem-clause-stopped g c =
    let p = err_from_is_err_and c.from_residual.result c.from_residual.ensures.1 in
    rw (p.1, p.2) (inr refl)

pub returns-in_err-conflict-clause-stopped : goal.returns-in_err-conflict-clause-stopped
returns-in_err-conflict-clause-stopped g c =
    let p = err_from_is_err_and c.from_residual-in_err-conflict.result c.from_residual-in_err-conflict.ensures.1 in
    rw (p.1, p.2) (inl refl)

pub returns-in_err-report-clause-stopped : goal.returns-in_err-report-clause-stopped
returns-in_err-report-clause-stopped g c =
    let p = err_from_is_err_and c.from_residual-in_err-report.result c.from_residual-in_err-report.ensures.1 in
    rw (p.1, p.2) (inl refl)
