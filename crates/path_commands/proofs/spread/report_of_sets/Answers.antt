-- What was found of the sets is told.
use Rattle.std.proofs.lemmas.Result.{IfOk-weaker}
use Rattle.wide_fraction.specs.SearchLimits.{limits_seen}
use Rattle.report_writer.specs.Reports.{Reports}
use Rattle.path_commands.specs.Spreads.{spread_status, spread_text}
use Rattle.path_commands.specs.SpreadsMade.{ReportsSpread}
use Rattle.path_commands.proofs.spread.report_of_sets.Goals as goal

pub report_of_spread-requires : goal.report_of_spread-requires
report_of_spread-requires c =
    let limits = c.args.limits.now in
    (c.args.sets.now, limits.top, limits.nodes, c.in_ok-spread.ensures)

pub returns : goal.returns
returns c =
    let p = c.args.problem.now in
    let spread = c.in_ok-spread.spread in
    IfOk-weaker c.report_of_spread.result (Reports (spread_status spread) (spread_text p spread))
    (ReportsSpread (limits_seen c.args.limits.now) p c.args.sets.now)
    (λ report reports. record { spread = spread; found = c.in_ok-spread.ensures; reports = reports; bound_small = c.keeps_greatest_bound.ensures })
    c.report_of_spread.ensures
