-- What each command makes is as what came of its files says.
use Rattle.std.proofs.Common.{refl, ap, [], option_map, string_bytes}
use Rattle.form_search.proofs.AdvisorLaws.{left_alike}
use Rattle.text_lines.specs.Arguments.{texts}
use Rattle.command_words.specs.Jobs.{search_seen}
use Rattle.command_words.specs.Jobs as read
use Rattle.input_files.specs.declared.problem.View.TheVariants.{BesidePresent}
use Rattle.input_files.specs.Outcomes.{outcome}
use Rattle.input_files.specs.Stops.{files_named}
use Rattle.change_commands.specs.Changes.{MayChange}
use Rattle.design_commands.specs.Designs.{MayDesign}
use Rattle.design_commands.specs.TotalRuns.{MayTotal}
use Rattle.path_commands.specs.Conflicts.{MayConflict}
use Rattle.evidence_commands.specs.Checks.{MayCheck, claim_read}
use Rattle.database_commands.specs.Compares.{MayCompare, compare_read}
use Rattle.database_commands.specs.Lsas.{MayLsas, identified_read}
use Rattle.designer_command.specs.Runs.{input_files_of, searched}
use Rattle.designer_command.proofs.Asking.{job_made, search_made, trial_made}
use Rattle.designer_command.proofs.Runs.{files_made, steps_made}
use Rattle.designer_command.proofs.dispatch.job_report.Goals as goal

pub returns-in-Design-clause-made : goal.returns-in-Design-clause-made
returns-in-Design-clause-made g c =
    let given = g.S.Shelf.gave c.args.shelf.now c.design_report.new.shelf in
    let s = search_seen c.in-Design.search in
    search_made given _ c.args.job.now (read.Design s) (MayDesign s.limits) _ _ c.design_report.result (files_named c.words.result) (searched s)
    (ap read.seen c.in-Design.is) c.words.ensures c.design_report.ensures.read c.design_report.ensures.stopped (λ came h. h) (λ came bytes h. h)

pub returns-in-Check-clause-made : goal.returns-in-Check-clause-made
returns-in-Check-clause-made g c =
    let given = g.S.Shelf.gave c.args.shelf.now c.check_report.new.shelf in
    job_made given _ c.args.job.now
    (read.Check c.deref.result.now c.deref-in-Check-2.result.now (texts c.deref-in-Check.result.now))
    c.check_report.result
    (rw (c.in-Check.is, c.deref.ensures, c.deref-in-Check-2.ensures, c.deref-in-Check.ensures.value) refl) (λ came bytes. refl)
    (files_made given (λ names. claim_read names c.deref-in-Check-2.result.now) MayCheck c.check_report.result
    (files_named c.files.result) (input_files_of c.deref.result.now (texts c.deref-in-Check.result.now))
    c.files.ensures c.check_report.ensures)

pub returns-in-Check-clause-advisors : goal.returns-in-Check-clause-advisors
returns-in-Check-clause-advisors g c = left_alike _ _ _ refl

pub returns-in-Audit-clause-made : goal.returns-in-Audit-clause-made
returns-in-Audit-clause-made g c =
    let given = g.S.Shelf.gave c.args.shelf.now c.made_audit.new.shelf in
    job_made given _ c.args.job.now
    (read.Audit c.deref-in-Audit.result.now (option_map string_bytes c.in-Audit.live) (texts c.deref-in-Audit-2.result.now))
    c.made_audit.result (rw (c.in-Audit.is, c.deref-in-Audit.ensures, c.deref-in-Audit-2.ensures.value) refl) (λ came bytes. refl)
    c.made_audit.ensures

pub returns-in-Audit-clause-advisors : goal.returns-in-Audit-clause-advisors
returns-in-Audit-clause-advisors g c = left_alike _ _ _ refl

pub returns-in-Rewrite-clause-made : goal.returns-in-Rewrite-clause-made
returns-in-Rewrite-clause-made g c =
    job_made (g.S.Shelf.gave c.args.shelf.now c.rewrite_report.new.shelf) _ c.args.job.now
    (read.Rewrite c.deref-in-Rewrite.result.now c.deref-in-Rewrite-2.result.now) c.rewrite_report.result
    (rw (c.in-Rewrite.is, c.deref-in-Rewrite.ensures, c.deref-in-Rewrite-2.ensures) refl) (λ came bytes. refl) c.rewrite_report.ensures

pub returns-in-Rewrite-clause-advisors : goal.returns-in-Rewrite-clause-advisors
returns-in-Rewrite-clause-advisors g c = left_alike _ _ _ refl

pub returns-in-Trial-clause-made : goal.returns-in-Trial-clause-made
returns-in-Trial-clause-made g c =
    trial_made (g.S.Shelf.gave c.args.shelf.now c.args.shelf.now) _ c.args.job.now c.in-Trial.blocks c.in-Trial.start c.made_trial.result
    (ap read.seen c.in-Trial.is) (g.met.S.Shelf.gave_none c.args.shelf.now) c.made_trial.ensures.made c.made_trial.ensures.asked

pub returns-in-Conflict-clause-made : goal.returns-in-Conflict-clause-made
returns-in-Conflict-clause-made g c =
    let given = g.S.Shelf.gave c.args.shelf.now c.conflict_report.new.shelf in
    let s = search_seen c.in-Conflict.search in
    search_made given _ c.args.job.now (read.Conflict s) (MayConflict s.limits) _ _ c.conflict_report.result (files_named c.words-in-Conflict.result)
    (searched s)
    (ap read.seen c.in-Conflict.is) c.words-in-Conflict.ensures c.conflict_report.ensures.read c.conflict_report.ensures.stopped (λ came h. h)
    (λ came bytes h. h)

pub returns-in-Spread-clause-made : goal.returns-in-Spread-clause-made
returns-in-Spread-clause-made g c =
    job_made (g.S.Shelf.gave c.args.shelf.now c.made_spread.new.shelf) _ c.args.job.now
    (read.Spread (search_seen c.in-Spread.search) c.deref-in-Spread.result.now) c.made_spread.result
    (rw (c.in-Spread.is, c.deref-in-Spread.ensures) refl) (λ came bytes. refl) c.made_spread.ensures

pub returns-in-Spread-clause-advisors : goal.returns-in-Spread-clause-advisors
returns-in-Spread-clause-advisors g c = left_alike _ _ _ refl

pub returns-in-Total-clause-made : goal.returns-in-Total-clause-made
returns-in-Total-clause-made g c =
    let given = g.S.Shelf.gave c.args.shelf.now c.total_report.new.shelf in
    let s = search_seen c.in-Total.search in
    search_made given _ c.args.job.now (read.Total s) (MayTotal s.limits) _ _ c.total_report.result (files_named c.words-in-Total.result) (searched s)
    (ap read.seen c.in-Total.is) c.words-in-Total.ensures c.total_report.ensures.read c.total_report.ensures.stopped (λ came h. h) (λ came bytes h. h)

pub returns-in-Change-clause-made : goal.returns-in-Change-clause-made
returns-in-Change-clause-made g c =
    let given = g.S.Shelf.gave c.args.shelf.now c.change_report.new.shelf in
    let s = search_seen c.in-Change.search in
    job_made given _ c.args.job.now (read.Change s) c.change_report.result (ap read.seen c.in-Change.is) (λ came bytes. refl)
    (files_made given (outcome BesidePresent) (MayChange s.limits) c.change_report.result (files_named c.words-in-Change.result) (searched s)
    c.words-in-Change.ensures c.change_report.ensures)

pub returns-in-Change-clause-advisors : goal.returns-in-Change-clause-advisors
returns-in-Change-clause-advisors g c = left_alike _ _ _ refl

pub returns-in-Steps-clause-made : goal.returns-in-Steps-clause-made
returns-in-Steps-clause-made g c =
    let given = g.S.Shelf.gave c.args.shelf.now c.made_steps.new.shelf in
    let names = input_files_of c.deref-in-Steps.result.now (texts c.deref-in-Steps-3.result.now) in
    let words = c.wanted in
    job_made given _ c.args.job.now
    (read.Steps c.deref-in-Steps.result.now c.deref-in-Steps-2.result.now c.in-Steps.nodes c.in-Steps.by (texts c.deref-in-Steps-3.result.now))
    c.made_steps.result
    (rw (c.in-Steps.is, c.deref-in-Steps.ensures, c.deref-in-Steps-2.ensures, c.deref-in-Steps-3.ensures.value) refl) (λ came bytes. refl)
    (steps_made given names names words.result.answer.now c.deref-in-Steps-2.result.now words.result.nodes c.in-Steps.nodes
    words.result.by c.in-Steps.by c.made_steps.result refl words.ensures.answer words.ensures.nodes words.ensures.by c.made_steps.ensures)

pub returns-in-Steps-clause-advisors : goal.returns-in-Steps-clause-advisors
returns-in-Steps-clause-advisors g c = left_alike _ _ _ refl

pub returns-in-Compare-clause-made : goal.returns-in-Compare-clause-made
returns-in-Compare-clause-made g c =
    let given = g.S.Shelf.gave c.args.shelf.now c.compare_report.new.shelf in
    job_made given _ c.args.job.now
    (read.Compare c.deref-in-Compare-3.result.now c.deref-in-Compare.result.now (texts c.deref-in-Compare-2.result.now))
    c.compare_report.result
    (rw (c.in-Compare.is, c.deref-in-Compare.ensures, c.deref-in-Compare-3.ensures, c.deref-in-Compare-2.ensures.value) refl) (λ came bytes. refl)
    (files_made given (λ names. compare_read names c.deref-in-Compare-3.result.now) MayCompare c.compare_report.result
    (files_named c.files-in-Compare.result) (input_files_of c.deref-in-Compare.result.now (texts c.deref-in-Compare-2.result.now))
    c.files-in-Compare.ensures c.compare_report.ensures)

pub returns-in-Compare-clause-advisors : goal.returns-in-Compare-clause-advisors
returns-in-Compare-clause-advisors g c = left_alike _ _ _ refl

pub returns-in-Help-clause-made : goal.returns-in-Help-clause-made
returns-in-Help-clause-made g c =
    let given = g.S.Shelf.gave c.args.shelf.now c.args.shelf.now in
    job_made given _ c.args.job.now (read.Help c.in-Help.topic) c.told_help.result (ap read.seen c.in-Help.is) (λ came bytes. refl)
    (record { came = []; given = g.met.S.Shelf.gave_none c.args.shelf.now; so = (refl, c.told_help.ensures) })

pub returns-in-Help-clause-advisors : goal.returns-in-Help-clause-advisors
returns-in-Help-clause-advisors g c = left_alike _ _ _ refl

pub returns-in-Version-clause-made : goal.returns-in-Version-clause-made
returns-in-Version-clause-made g c =
    let given = g.S.Shelf.gave c.args.shelf.now c.args.shelf.now in
    job_made given _ c.args.job.now read.Version c.told_version.result (ap read.seen c.in-Version.is) (λ came bytes. refl)
    (record { came = []; given = g.met.S.Shelf.gave_none c.args.shelf.now; so = (refl, c.told_version.ensures) })

pub returns-in-Version-clause-advisors : goal.returns-in-Version-clause-advisors
returns-in-Version-clause-advisors g c = left_alike _ _ _ refl

pub returns-in-Lsas-clause-made : goal.returns-in-Lsas-clause-made
returns-in-Lsas-clause-made g c =
    let given = g.S.Shelf.gave c.args.shelf.now c.lsas_report.new.shelf in
    job_made given _ c.args.job.now (read.Lsas c.deref-in-Lsas.result.now (texts c.deref-in-Lsas-2.result.now))
    c.lsas_report.result (rw (c.in-Lsas.is, c.deref-in-Lsas.ensures, c.deref-in-Lsas-2.ensures.value) refl) (λ came bytes. refl)
    (files_made given identified_read MayLsas c.lsas_report.result (files_named c.files-in-Lsas.result)
    (input_files_of c.deref-in-Lsas.result.now (texts c.deref-in-Lsas-2.result.now)) c.files-in-Lsas.ensures
    c.lsas_report.ensures)

pub returns-in-Lsas-clause-advisors : goal.returns-in-Lsas-clause-advisors
returns-in-Lsas-clause-advisors g c = left_alike _ _ _ refl

pub returns-in-Route-clause-made : goal.returns-in-Route-clause-made
returns-in-Route-clause-made g c =
    job_made (g.S.Shelf.gave c.args.shelf.now c.route_report.new.shelf) _ c.args.job.now
    (read.Route c.deref-in-Route.result.now c.in-Route.from c.in-Route.to) c.route_report.result
    (rw (c.in-Route.is, c.deref-in-Route.ensures) refl) (λ came bytes. refl) c.route_report.ensures

pub returns-in-Route-clause-advisors : goal.returns-in-Route-clause-advisors
returns-in-Route-clause-advisors g c = left_alike _ _ _ refl
