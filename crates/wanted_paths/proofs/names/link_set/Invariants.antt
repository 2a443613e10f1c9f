use Rattle.std.proofs.Common.{◌≡◌, ℕ, List, map, take}
use Rattle.wanted_paths.specs.Keys.{link_key}
use Rattle.wanted_paths.proofs.names.link_set.Given as goal

abbrev pub invariant-loop-link : goal.invariant-loop-link
invariant-loop-link l = map {B = ℕ × List ℕ} (λ key. (key.0, key.1.now)) l.set.keys ≡ take l.link-index (map link_key l.links)
