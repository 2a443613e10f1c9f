use Rattle.std.proofs.Common.{◌∙◌, ap, map, cond, Some}
use Rattle.cost_base.specs.Lists.{same_bytes}
use Rattle.config_writer.specs.Writing.{look_up}
use Rattle.config_writer.proofs.CostMaps.{entry_of, look_up-insert}
use Rattle.config_writer.proofs.new_costs.NewCosts.add.Goals as goal

pub returns-clause-costs : goal.returns-clause-costs
returns-clause-costs c name =
    ap (λ entries. look_up name (map entry_of entries)) c.in_ok-insert.ensures.entries
    ∙ look_up-insert c.self.inside.costs.entries c.args.interface c.args.cost name
    ∙ ap (λ costs. cond (same_bytes name c.args.interface.now) (Some c.args.cost) (look_up name costs)) c.self.view_is
