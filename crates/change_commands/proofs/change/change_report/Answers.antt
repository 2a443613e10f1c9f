-- What is found of the network that was read is told.
use Rattle.wide_fraction.specs.SearchLimits.{limits_seen}
use Rattle.input_files.specs.Stops.{files_named}
use Rattle.change_commands.proofs.ChangeRuns.{change_ended}
use Rattle.change_commands.proofs.PresentCosts.{network_built}
use Rattle.change_commands.proofs.change.change_report.Goals as goal

pub report_of_network-report-requires : goal.report_of_network-report-requires
report_of_network-report-requires g c =
    network_built (files_named c.args.words) c.in_ok-network.network c.in_ok-network.ensures.read.so.said c.in_ok-network.ensures.read.so.fits

pub returns : goal.returns
returns g c =
    change_ended (g.S.Shelf.gave c.args.shelf.now c.read_network.new.shelf) (limits_seen c.args.limits.now)
    (files_named c.args.words) c.in_ok-network.network c.report_of_network-report.result c.in_ok-network.ensures.read c.report_of_network-report.ensures.made
    c.report_of_network-report.ensures.wanting
