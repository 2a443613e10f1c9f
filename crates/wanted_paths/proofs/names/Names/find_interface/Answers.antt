use Rattle.wanted_paths.proofs.LookUps.{no_router_link}
use Rattle.wanted_paths.proofs.names.Names.find_interface.Goals as goal

pub returns-in-Some-clause-found : goal.returns-in-Some-clause-found
returns-in-Some-clause-found c = c.find_link.ensures c.args.router.now c.in-Some.ensures.found.0 c.in-Some.ensures.found.1

pub returns-in-None-clause-found : goal.returns-in-None-clause-found
returns-in-None-clause-found c =
    no_router_link c.args.self.now c.args.router.now c.args.interface.now c.in-None.ensures.base c.in-None.ensures.found
