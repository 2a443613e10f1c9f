use Rattle.std.proofs.Common.{sym, subst, map, None}
use Rattle.interface_model.specs.Records.{Router, IsRouter}
use Rattle.config_reader.specs.Heards.{said_of}
use Rattle.config_reader.specs.Drafting.{id_after, finished}
use Rattle.config_reader.proofs.WholeConfig.{same_router}
use Rattle.config_reader.proofs.config.made.Goals as goal

pub assemble-requires : goal.assemble-requires
assemble-requires c =
    subst IsRouter (sym (same_router c.args.name.now c.router_id.result (id_after None (map said_of c.args.said.now))
    c.in_ok-interfaces.interfaces.items (map (finished c.args.networks.now) c.args.drafts.drafts.items)
    c.router_id.ensures c.in_ok-interfaces.ensures)) c.requires
