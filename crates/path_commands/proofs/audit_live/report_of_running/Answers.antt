-- What was found of the problem at the costs at which the area runs is told.
use Rattle.input_files.specs.Stops.{files_named}
use Rattle.path_commands.proofs.LiveAuditRuns.{running_ended, running_parts}
use Rattle.path_commands.proofs.audit_live.report_of_running.Goals as goal

pub returns : goal.returns
returns c laid is =
    let area = c.in_ok-running.running in
    running_ended (files_named c.args.words) laid c.args.live.now c.args.layout.request_file area.lsdb area.missing.items c.report_at-report.result
    (running_parts c.args.layout laid c.deref.result.now c.args.live.now area is c.deref.ensures.value c.in_ok-running.ensures.costs
    c.in_ok-running.ensures.missing)
    c.report_at-report.ensures
