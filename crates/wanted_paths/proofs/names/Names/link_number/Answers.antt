use Rattle.std.proofs.Common.{◌∙◌}
use Rattle.wanted_paths.specs.Paths.{link_number}
use Rattle.wanted_paths.specs.Resolution.{knows_link}
use Rattle.wanted_paths.proofs.LookUps.{number_or_zero, link_unknown}
use Rattle.wanted_paths.proofs.names.Names.link_number.Goals as goal

pub returns : goal.returns
returns c =
    let d = c.args.self.now in
    let router = c.args.router.now in
    let interface = c.args.interface.now in
    c.unwrap_or.ensures
    ∙ number_or_zero c.find_interface.result (link_number d router interface) (knows_link d router interface)
    c.find_interface.ensures.found (link_unknown d router interface)
