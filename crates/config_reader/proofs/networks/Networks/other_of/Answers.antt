use Rattle.std.proofs.Common.{◌∙◌, sym, ap}
use Rattle.std.specs.Prelude.{option_copied}
use Rattle.config_reader.specs.Sightings.{lines_of_prefix}
use Rattle.config_reader.proofs.Sightings.{other_here, other_lacks, first_elsewhere}
use Rattle.config_reader.proofs.networks.Networks.other_of.Goals as goal

pub returns-in_err-lines : goal.returns-in_err-lines
returns-in_err-lines c =
    c.from_residual.ensures
    ∙ other_lacks c.args.prefix c.args.area c.args.self.now
    (ap option_copied (sym c.in_err-lines.was) ∙ c.get.ensures.value ∙ c.self.invariant c.args.prefix ∙ ap (lines_of_prefix c.args.prefix) c.self.view_is)

pub returns-then-lines-area : goal.returns-then-lines-area
returns-then-lines-area c =
    other_here c.args.prefix c.args.area c.args.self.now c.in_ok-lines.lines.now
    (ap option_copied (sym c.in_ok-lines.was) ∙ c.get.ensures.value ∙ c.self.invariant c.args.prefix ∙ ap (lines_of_prefix c.args.prefix) c.self.view_is)
    c.if-lines-area.true

pub returns-else-lines-area : goal.returns-else-lines-area
returns-else-lines-area c =
    first_elsewhere c.args.prefix c.args.area c.args.self.now c.in_ok-lines.lines.now
    (ap option_copied (sym c.in_ok-lines.was) ∙ c.get.ensures.value ∙ c.self.invariant c.args.prefix ∙ ap (lines_of_prefix c.args.prefix) c.self.view_is)
    c.if-lines-area.false
