use Rattle.std.proofs.Common.{◌≡◌, drop}
use Rattle.std.specs.List.{list_any}
use Rattle.path_requests.specs.Resolving.{ends_differ}
use Rattle.path_requests.proofs.variables.any_ends_differ.Given as goal

abbrev pub invariant-loop-i : goal.invariant-loop-i
invariant-loop-i l =
    list_any (ends_differ l.choices.asked l.choices.database) (drop l.i l.choices.database.links)
    ≡ list_any (ends_differ l.choices.asked l.choices.database) l.choices.database.links
