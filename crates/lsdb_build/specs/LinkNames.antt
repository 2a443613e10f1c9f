-- The names of a link: its router's, and its interface's.
use Rattle.std.specs.Prelude.{ℕ, List, [], Option, Some, None, slice_get, slice_index_or}
use Rattle.lsdb_build.specs.declared.Linked.{Linked}
use Rattle.lsdb_build.specs.Graphs.{Database}

-- the name of the router that a link leaves
abbrev pub link_router : Database → ℕ → List ℕ
link_router d l = name_of (slice_get d.links l)
  where
    name_of : Option Linked → List ℕ
    name_of None = []
    name_of (Some link) = slice_index_or d.routers link.router []

-- the name of the interface by which a link leaves its router
abbrev pub link_interface : Database → ℕ → List ℕ
link_interface d l = name_of (slice_get d.links l)
  where
    name_of : Option Linked → List ℕ
    name_of None = []
    name_of (Some link) = link.interface
