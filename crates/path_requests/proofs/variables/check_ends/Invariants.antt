use Rattle.std.proofs.Common.{◌≡◌, drop}
use Rattle.path_requests.specs.Resolving.{ends_faults}
use Rattle.path_requests.proofs.variables.check_ends.Given as goal

abbrev pub invariant-loop-item : goal.invariant-loop-item
invariant-loop-item l = ends_faults l.choices.asked l.choices.database (drop l.item-index l.items) ≡ ends_faults l.choices.asked l.choices.database l.items
