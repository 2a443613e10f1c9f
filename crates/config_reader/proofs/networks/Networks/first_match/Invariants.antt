use Rattle.std.proofs.Common.{◌≡◌}
use Rattle.config_reader.specs.Sightings.{first_at}
use Rattle.config_reader.proofs.Sightings.{covers_below}
use Rattle.config_reader.proofs.networks.Networks.first_match.Given as goal

-- the first of the lines that are shorter
abbrev pub invariant-loop-length : goal.invariant-loop-length
invariant-loop-length l = l.shorter ≡ first_at 0 (covers_below l.length l.address.address) l.self
