-- What the checks after all lines are told, and what stands once they found no fault. No public clause cites it.
use Rattle.std.specs.Prelude.{◌≡◌, ◌≤◌, ℕ, List, [], Some, length, slice_get, slice_index_or}
use Rattle.lsdb_build.specs.declared.Linked.{Linked}
use Rattle.lsdb_build.specs.Graphs.{Database}
use Rattle.request_reader.specs.Asked.{Asked}
use Rattle.path_requests.specs.Meaning.{Range, AsItIs, range_of, owners}
use Rattle.path_requests.specs.Resolving.{ends_faults, variable_faults, cost_faults}

-- the ranges of links in their order, as far as they go; the links behind are fixed
abbrev pub HasRanges : Asked → Database → List Linked → List Range → Type 0
HasRanges a d links ranges = (i : ℕ) (link : Linked) → slice_get links i ≡ Some link → slice_index_or ranges i AsItIs ≡ range_of a d link

-- the links with a variable of their own, where there are few enough, no ends differ and each fixed link has a cost
pub record AreOwners (a : Asked) (d : Database) (links : List ℕ) : Type 0 where
  pub own : links ≡ owners a d
  pub few : length links ≤ 1000
  pub ends : ends_faults a d a.items ≡ []
  pub count : variable_faults a d ≡ []
  pub costs : cost_faults a d 0 d.links ≡ []
