-- What of the lines of a request file can't be resolved in a database, as the whole list of faults in their order.
use Rattle.std.specs.Prelude.{◌≡◌, ℕ, ◌+◌, List, [], ◌∷◌, ◌++◌, ◌||◌, not, if◌then◌else◌, Bool, true, false, Option, Some, None, slice_get}
use Rattle.std.specs.List.{list_any}
use Rattle.cost_base.specs.Lists.{same_bytes}
use Rattle.cost_base.specs.declared.refusal.Refusal.{Refusal}
use Rattle.cost_base.specs.declared.refusal.Refusal.TheVariants.{Refused, OutOfMemory}
use Rattle.lsdb_build.specs.declared.Linked.{Linked}
use Rattle.lsdb_build.specs.Graphs.{Database}
use Rattle.request_reader.specs.declared.Excluded.{Excluded}
use Rattle.request_reader.specs.declared.Excluded.TheVariants.{Router, Interface}
use Rattle.request_reader.specs.declared.Directive.{Directive}
use Rattle.request_reader.specs.declared.Directive.TheVariants.{FreeAll, Free, Fix, Path, SymmetricAll, Symmetric}
use Rattle.request_reader.specs.declared.DirectiveLine.{DirectiveLine}
use Rattle.request_reader.specs.WrittenRoutes.{Route}
use Rattle.wanted_paths.specs.declared.fault.ResolutionFault.{ResolutionFault}
use Rattle.wanted_paths.specs.declared.fault.ResolutionFault.TheVariants.{UnknownRouter, UnknownInterface, NotALink, BrokenPath, LoopPath, PathExcluded}
use Rattle.wanted_paths.specs.Paths.{next_name, link_number, router_number, route_edges, excludes, outline}
use Rattle.wanted_paths.specs.Resolution.{knows_router, knows_link, leads_to_router, is_loop_free}

-- the fault, unless all is well
abbrev pub fault_unless : Bool → ResolutionFault → List ResolutionFault
fault_unless well fault = if well then [] else fault ∷ []

-- The faults of words.

-- the fault of the name of a router, where no configuration has it
abbrev pub router_faults : Database → ℕ → List ℕ → List ResolutionFault
router_faults d line router = fault_unless (knows_router d router) (UnknownRouter line)

-- the fault of an interface: no configuration has its router's name, or that router has no linked interface of its name
abbrev pub interface_faults : Database → ℕ → List ℕ → List ℕ → List ResolutionFault
interface_faults d line router interface = router_faults d line router ++ fault_unless (knows_link d router interface) (UnknownInterface line)

-- the faults of the words of a path: of each hop, then of the last router
abbrev pub hop_faults : Database → ℕ → List (List ℕ × List ℕ) → List ℕ → List ResolutionFault
hop_faults d line [] last = router_faults d line last
hop_faults d line (hop ∷ hops) last = interface_faults d line hop.0 hop.1 ++ hop_faults d line hops last

-- the faults of one word behind `without`
abbrev pub part_faults : Database → ℕ → Excluded → List ResolutionFault
part_faults d line (Router router) = router_faults d line router
part_faults d line (Interface router interface) = interface_faults d line router interface

-- the faults of the words behind `without`, in their order
abbrev pub parts_faults : Database → ℕ → List Excluded → List ResolutionFault
parts_faults d line [] = []
parts_faults d line (part ∷ parts) = part_faults d line part ++ parts_faults d line parts

-- The faults of a path.

-- the interface leads to the router of that name
abbrev pub leads_on : Database → List ℕ × List ℕ → List ℕ → Bool
leads_on d hop next = leads_to_router d (router_number d next) (slice_get d.links (link_number d hop.0 hop.1))

-- the faults of the hops that don't lead to the router of the next word, counted from `number` on
abbrev pub broken_faults : Database → ℕ → ℕ → List (List ℕ × List ℕ) → List ℕ → List ResolutionFault
broken_faults d line number [] last = []
broken_faults d line number (hop ∷ hops) last =
    (if leads_on d hop (next_name hops last) then [] else BrokenPath line number ∷ []) ++ broken_faults d line (number + 1) hops last

-- the part is the router of this name
abbrev pub is_router_part : List ℕ → Excluded → Bool
is_router_part name (Router router) = same_bytes router name
is_router_part name (Interface router interface) = false

-- the path's start is excluded, or an edge of the path
abbrev pub is_path_excluded : Database → Route → List Excluded → Bool
is_path_excluded d route parts =
    list_any (is_router_part (next_name route.hops route.last)) parts
    || list_any (λ e. list_any (excludes d (outline d) e) parts) (route_edges d (outline d) route.hops route.last)

-- the faults of a path: of its words one by one, of its hops one by one, and then that a router or a subnet comes twice
abbrev pub walk_faults : Database → ℕ → Route → List ResolutionFault
walk_faults d line route =
    hop_faults d line route.hops route.last
    ++ broken_faults d line 1 route.hops route.last
    ++ fault_unless (is_loop_free d (outline d) route) (LoopPath line)

-- the faults of the words after `without`, one by one, and then that they exclude an edge or the start of the path
abbrev pub without_faults : Database → ℕ → Route → List Excluded → List ResolutionFault
without_faults d line route parts = parts_faults d line parts ++ fault_unless (not (is_path_excluded d route parts)) (PathExcluded line)

-- the faults of a `path` line: of the path, then of what is excluded
abbrev pub path_faults : Database → ℕ → Route → List Excluded → List ResolutionFault
path_faults d line route parts = walk_faults d line route ++ without_faults d line route parts

-- The faults of lines.

-- the link is one of a point-to-point subnet: it has a link back
abbrev pub has_link_back : Option Linked → Bool
has_link_back None = false
has_link_back (Some link) = is_there link.link_back
  where
    is_there : Option ℕ → Bool
    is_there None = false
    is_there (Some m) = true

-- the faults of one line
abbrev pub directive_faults : Database → ℕ → Directive → List ResolutionFault
directive_faults d line (FreeAll lo hi) = []
directive_faults d line (Free router interface lo hi) = interface_faults d line router interface
directive_faults d line (Fix router interface) = interface_faults d line router interface
directive_faults d line (Path route parts) = path_faults d line route parts
directive_faults d line SymmetricAll = []
directive_faults d line (Symmetric router interface) =
    interface_faults d line router interface ++ fault_unless (has_link_back (slice_get d.links (link_number d router interface))) (NotALink line)

-- the faults of all lines, in their order
abbrev pub line_faults : Database → List DirectiveLine → List ResolutionFault
line_faults d [] = []
line_faults d (item ∷ items) = directive_faults d item.line item.what ++ line_faults d items

-- the refusal tells the fault; want of memory says nothing
abbrev pub TellsResolution : Option ResolutionFault → Refusal ResolutionFault (Unit {0}) → Type 0
TellsResolution fault (Refused told place) = fault ≡ Some told
TellsResolution fault OutOfMemory = Unit {0}
