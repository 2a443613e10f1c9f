use Rattle.std.proofs.Common.{◌≡◌, ◌++◌, drop, map}
use Rattle.std.specs.Prelude.{slice_get}
use Rattle.std.specs.List.{filter_map}
use Rattle.path_requests.specs.Meaning.{low_of, range_at}
use Rattle.path_requests.proofs.variables.low_bounds.Given as goal

abbrev pub invariant-loop-link : goal.invariant-loop-link
invariant-loop-link l =
    l.made.items ++ map low_of (filter_map (λ k. range_at l.choices.asked l.choices.database (slice_get l.choices.database.links k)) (drop l.link-index l.own))
    ≡ map low_of (filter_map (λ k. range_at l.choices.asked l.choices.database (slice_get l.choices.database.links k)) l.own)
