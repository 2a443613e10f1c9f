use Rattle.std.proofs.Common.{◌∙◌, ap}
use Rattle.std.specs.Prelude.{is_some}
use Rattle.config_reader.specs.Spoken.{prefix_spoken}
use Rattle.config_reader.specs.Drafting.{covers}
use Rattle.config_reader.proofs.Sightings.{any_first}
use Rattle.config_reader.proofs.networks.Networks.match_some.Goals as goal

pub returns : goal.returns
returns c = c.is_some.ensures ∙ ap is_some c.first_match.ensures ∙ any_first 0 (covers (prefix_spoken c.args.address)) c.args.self.now
