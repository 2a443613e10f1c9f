use Rattle.std.proofs.Common.{◌∙◌, ap}
use Rattle.config_writer.specs.Writing.{look_up}
use Rattle.config_writer.proofs.CostMaps.{looked_up}
use Rattle.config_writer.proofs.new_costs.NewCosts.cost.Goals as goal

pub returns : goal.returns
returns c = c.copied.ensures ∙ c.get.ensures.value ∙ looked_up c.args.interface.now c.self.inside.costs.entries
    ∙ ap (look_up c.args.interface.now) c.self.view_is
