use Rattle.std.proofs.Common.{◌∙◌, sym, ap}
use Rattle.std.specs.Prelude.{option_copied}
use Rattle.config_reader.specs.Sightings.{lines_of_prefix}
use Rattle.config_reader.proofs.Sightings.{first_found, first_lacks}
use Rattle.config_reader.proofs.networks.Networks.first_of.Goals as goal

pub returns-in_err-lines : goal.returns-in_err-lines
returns-in_err-lines c =
    c.from_residual.ensures
    ∙ first_lacks c.args.prefix c.args.self.now
    (ap option_copied (sym c.in_err-lines.was) ∙ c.get.ensures.value ∙ c.self.invariant c.args.prefix ∙ ap (lines_of_prefix c.args.prefix) c.self.view_is)

pub returns : goal.returns
returns c =
    first_found c.args.prefix c.args.self.now c.in_ok-lines.lines.now
    (ap option_copied (sym c.in_ok-lines.was) ∙ c.get.ensures.value ∙ c.self.invariant c.args.prefix ∙ ap (lines_of_prefix c.args.prefix) c.self.view_is)
