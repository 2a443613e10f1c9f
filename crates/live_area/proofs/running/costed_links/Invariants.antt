-- with those of the links that are left they are all
use Rattle.std.proofs.Common.{◌≡◌, ◌++◌, drop}
use Rattle.live_area.specs.LiveCosts.{costed_from}
use Rattle.live_area.proofs.running.costed_links.Given as goal

abbrev pub invariant-loop-place : goal.invariant-loop-place
invariant-loop-place l = l.made.items ++ costed_from l.metrics l.place (drop l.place l.links) ≡ costed_from l.metrics 0 l.links
