use Rattle.std.proofs.Common.{◌∙◌}
use Rattle.wanted_paths.specs.Paths.{router_number}
use Rattle.wanted_paths.specs.Resolution.{knows_router}
use Rattle.wanted_paths.proofs.LookUps.{number_or_zero, router_unknown}
use Rattle.wanted_paths.proofs.names.Names.router_number.Goals as goal

pub returns : goal.returns
returns c =
    c.unwrap_or.ensures
    ∙ number_or_zero c.find_router.result (router_number c.args.self.now c.args.name.now)
    (knows_router c.args.self.now c.args.name.now) c.find_router.ensures.found
    (router_unknown c.args.self.now c.args.name.now)
