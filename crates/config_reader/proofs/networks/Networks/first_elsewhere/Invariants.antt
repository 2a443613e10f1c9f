use Rattle.std.proofs.Common.{◌≡◌, ◌&&◌}
use Rattle.config_reader.specs.Sightings.{first_at, is_elsewhere}
use Rattle.config_reader.proofs.Sightings.{covers_below}
use Rattle.config_reader.proofs.networks.Networks.first_elsewhere.Given as goal

-- the first of the lines that are shorter and have another area
abbrev pub invariant-loop-length : goal.invariant-loop-length
invariant-loop-length l = l.shorter ≡ first_at 0 (λ line. covers_below l.length l.address.address line && is_elsewhere l.area line) l.self
