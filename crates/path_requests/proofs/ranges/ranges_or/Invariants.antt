use Rattle.std.proofs.Common.{◌≡◌, map, take}
use Rattle.std.specs.Prelude.{unwrap_or}
use Rattle.path_requests.proofs.ranges.ranges_or.Given as goal

abbrev pub invariant-loop-said : goal.invariant-loop-said
invariant-loop-said l = l.ranges.items ≡ map (λ said. unwrap_or said l.other) (take l.said-index l.decided)
