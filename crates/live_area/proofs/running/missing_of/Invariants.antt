-- with those among the interfaces that are left they are all
use Rattle.std.proofs.Common.{◌≡◌, ◌++◌, drop}
use Rattle.live_area.specs.LiveCosts.{without_metric}
use Rattle.live_area.proofs.running.missing_of.Given as goal

abbrev pub invariant-loop-number : goal.invariant-loop-number
invariant-loop-number l = l.missing.items ++ without_metric l.number (drop l.number l.metrics) ≡ without_metric 0 l.metrics
