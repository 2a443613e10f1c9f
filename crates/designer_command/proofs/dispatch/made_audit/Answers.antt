-- An audit is of the files, or of the running area of a live file.
use Rattle.std.proofs.Common.{◌≡◌, refl, None, Some, option_map, string_bytes}
use Rattle.text_lines.specs.Arguments.{texts}
use Rattle.input_files.specs.declared.problem.View.TheVariants.{AtPresent}
use Rattle.input_files.specs.Outcomes.{outcome}
use Rattle.input_files.specs.Stops.{files_named}
use Rattle.path_commands.specs.Audits.{MayAudit}
use Rattle.path_commands.specs.LiveAudits.{MayAuditLive, live_audit_read}
use Rattle.designer_command.specs.Runs.{input_files_of}
use Rattle.designer_command.proofs.Runs.{audit_made, files_made}
use Rattle.designer_command.proofs.dispatch.made_audit.Goals as goal

pub returns-in-Some : goal.returns-in-Some
returns-in-Some g c =
    let given = g.S.Shelf.gave c.args.shelf.now c.audit_live_report.new.shelf in
    let live : option_map string_bytes c.args.live.now ≡ Some c.deref.result.now = rw (c.in-Some.is, c.deref.ensures) refl in
    audit_made given c.args.request.now (texts c.args.configs.now) (option_map string_bytes c.args.live.now)
    (Some c.deref.result.now) c.audit_live_report.result live
    (files_made given (λ names. live_audit_read names c.deref.result.now) MayAuditLive c.audit_live_report.result
    (files_named c.files.result) (input_files_of c.args.request.now (texts c.args.configs.now)) c.files.ensures
    c.audit_live_report.ensures)

pub returns-in-None : goal.returns-in-None
returns-in-None g c =
    let given = g.S.Shelf.gave c.args.shelf.now c.audit_report.new.shelf in
    let live : option_map string_bytes c.args.live.now ≡ None = rw c.in-None.is refl in
    audit_made given c.args.request.now (texts c.args.configs.now) (option_map string_bytes c.args.live.now)
    None c.audit_report.result live
    (files_made given (outcome AtPresent) MayAudit c.audit_report.result (files_named c.files-in-None.result)
    (input_files_of c.args.request.now (texts c.args.configs.now)) c.files-in-None.ensures c.audit_report.ensures)
