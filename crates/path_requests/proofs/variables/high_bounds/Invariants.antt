use Rattle.std.proofs.Common.{◌≡◌, ◌++◌, drop, map}
use Rattle.std.specs.Prelude.{slice_get}
use Rattle.std.specs.List.{filter_map}
use Rattle.path_requests.specs.Meaning.{high_of, range_at}
use Rattle.path_requests.proofs.variables.high_bounds.Given as goal

abbrev pub invariant-loop-link : goal.invariant-loop-link
invariant-loop-link l =
    l.made.items ++ map high_of (filter_map (λ k. range_at l.choices.asked l.choices.database (slice_get l.choices.database.links k)) (drop l.link-index l.own))
    ≡ map high_of (filter_map (λ k. range_at l.choices.asked l.choices.database (slice_get l.choices.database.links k)) l.own)
