use Rattle.std.proofs.Common.{◌≡◌, map, drop}
use Rattle.path_requests.specs.Chosen.{last_said}
use Rattle.path_requests.proofs.ranges.decide_lines.Given as goal

-- what the lines from here on say last of each link
abbrev pub invariant-loop-place : goal.invariant-loop-place
invariant-loop-place l = l.decided.items ≡ map (λ link. last_said l.names link (drop l.place l.items)) l.names.links
