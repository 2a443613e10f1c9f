use Rattle.std.proofs.Common.{◌∙◌, None, Some, sym}
use Rattle.config_reader.specs.Spoken.{prefix_spoken}
use Rattle.config_reader.proofs.Sightings.{area_found}
use Rattle.config_reader.proofs.networks.Networks.area.Goals as goal

pub returns-in_err-first : goal.returns-in_err-first
returns-in_err-first c =
    c.from_residual.ensures ∙ area_found (prefix_spoken c.args.address) c.args.self.now None (sym c.in_err-first.was ∙ c.first_match.ensures)

pub returns : goal.returns
returns c = area_found (prefix_spoken c.args.address) c.args.self.now (Some c.in_ok-first.first) (sym c.in_ok-first.was ∙ c.first_match.ensures)
