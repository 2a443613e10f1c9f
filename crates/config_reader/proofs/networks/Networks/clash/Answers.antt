use Rattle.std.proofs.Common.{◌∙◌, None, Some, sym}
use Rattle.config_reader.specs.Spoken.{prefix_spoken}
use Rattle.config_reader.proofs.Sightings.{clash_lacks, clash_found}
use Rattle.config_reader.proofs.networks.Networks.clash.Goals as goal

pub returns-in_err-first : goal.returns-in_err-first
returns-in_err-first c =
    c.from_residual.ensures ∙ clash_lacks (prefix_spoken c.args.address) c.args.self.now (sym c.in_err-first.was ∙ c.first_match.ensures)

pub returns-in_err-other : goal.returns-in_err-other
returns-in_err-other c =
    c.from_residual-in_err-other.ensures
    ∙ clash_found (prefix_spoken c.args.address) c.args.self.now c.in_ok-first.first None
    (sym c.in_ok-first.was ∙ c.first_match.ensures) (sym c.in_err-other.was ∙ c.first_elsewhere.ensures)

pub returns : goal.returns
returns c =
    clash_found (prefix_spoken c.args.address) c.args.self.now c.in_ok-first.first (Some c.in_ok-other.other)
    (sym c.in_ok-first.was ∙ c.first_match.ensures) (sym c.in_ok-other.was ∙ c.first_elsewhere.ensures)
