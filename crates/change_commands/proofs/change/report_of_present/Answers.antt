-- What is found of the changes of these costs, and its report.
use Rattle.std.proofs.lemmas.Result.{IfOk-weaker}
use Rattle.wide_fraction.specs.SearchLimits.{limits_seen}
use Rattle.std.proofs.Common.{subst, List, ℕ, Option}
use Rattle.report_writer.specs.Reports.{Reports}
use Rattle.least_change.specs.Changes.{IsChangeFound}
use Rattle.change_commands.specs.Changes.{IsReportIn, change_status, change_text}
use Rattle.change_commands.proofs.PresentCosts.{asked_present}
use Rattle.change_commands.proofs.change.report_of_present.Goals as goal

pub find_change-requires : goal.find_change-requires
find_change-requires c =
    let network = c.args.network.now in
    asked_present network.request_file network.lsdb network.problem c.args.present.now c.requires.built c.requires.present

pub report_of_change-report-requires-clause-found : goal.report_of_change-report-requires-clause-found
report_of_change-report-requires-clause-found c =
    let limits = c.args.limits.now in
    (limits.top, limits.nodes, limits.budget_end, c.in_ok-change.ensures)

pub returns : goal.returns
returns c =
    let network = c.args.network.now in
    let limits = c.args.limits.now in
    let change = c.in_ok-change.change in
    let found = subst (λ (present : List (Option ℕ)). IsChangeFound (record {
      problem = network.problem;
      present = present;
      top = limits.top;
      nodes =
          limits.nodes;
    }) change)
    c.requires.present c.in_ok-change.ensures in
    IfOk-weaker c.report_of_change-report.result (Reports (change_status change) (change_text network.request_file network.lsdb network.problem change))
    (IsReportIn (limits_seen limits) network.request_file network.lsdb network.problem)
    (λ report reports. record { change = change; found = found; reports = reports; bound_small = c.keeps_greatest_bound.ensures })
    c.report_of_change-report.ensures
