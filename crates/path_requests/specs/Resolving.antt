-- What of a request file can't be resolved in a database, as the whole list of faults in their order; and the present
-- request file.
use Rattle.std.specs.Prelude.{ℕ, ◌+◌, List, [], ◌∷◌, ◌++◌, ◌==◌, ◌&&◌, nat_le, not, if◌then◌else◌, Bool, true, false, Option, Some, None, filter, length, slice_get}
use Rattle.std.specs.List.{list_any}
use Rattle.cost_base.specs.Lists.{first_of}
use Rattle.lsdb_build.specs.declared.Linked.{Linked}
use Rattle.lsdb_build.specs.Graphs.{Database}
use Rattle.design_problem.specs.Problems.{DesignProblem}
use Rattle.request_reader.specs.declared.Directive.{Directive}
use Rattle.request_reader.specs.declared.Directive.TheVariants.{FreeAll, Free, Fix, SymmetricAll, Symmetric}
use Rattle.request_reader.specs.declared.DirectiveLine.{DirectiveLine}
use Rattle.request_reader.specs.Asked.{Asked}
use Rattle.wanted_paths.specs.declared.fault.ResolutionFault.{ResolutionFault}
use Rattle.wanted_paths.specs.declared.fault.ResolutionFault.TheVariants.{EndsDiffer, TooManyVariables, NoCost}
use Rattle.wanted_paths.specs.Paths.{link_number}
use Rattle.wanted_paths.specs.LineFaults.{fault_unless, line_faults}
use Rattle.path_requests.specs.Meaning.{Range, Within, AsItIs, range_of, owners, problem_of}

-- The faults after all lines.

-- both ranges are fixed, or both have the same bounds
abbrev pub same_range : Range → Range → Bool
same_range (Within lo hi) (Within low high) = lo == low && hi == high
same_range (Within lo hi) AsItIs = false
same_range AsItIs (Within low high) = false
same_range AsItIs AsItIs = true

-- the link and its other end aren't both fixed, nor both free within the same bounds
abbrev pub ends_differ : Asked → Database → Linked → Bool
ends_differ a d link = differs link.link_back
  where
    differs_from : Option Linked → Bool
    differs_from None = false
    differs_from (Some link_back) = not (same_range (range_of a d link) (range_of a d link_back))

    differs : Option ℕ → Bool
    differs None = false
    differs (Some m) = differs_from (slice_get d.links m)

-- the link, where there is one, and its link back have different ranges
abbrev pub ends_differ_at : Asked → Database → Option Linked → Bool
ends_differ_at a d None = false
ends_differ_at a d (Some link) = ends_differ a d link

-- a line makes a link symmetric whose ends differ
abbrev pub ties_different : Asked → Database → Directive → Bool
ties_different a d SymmetricAll = list_any (ends_differ a d) d.links
ties_different a d (Symmetric router interface) = ends_differ_at a d (slice_get d.links (link_number d router interface))
ties_different a d _ = false

-- the faults of the `symmetric` lines that tie links with different ranges
abbrev pub ends_faults : Asked → Database → List DirectiveLine → List ResolutionFault
ends_faults a d [] = []
ends_faults a d (item ∷ items) = fault_unless (not (ties_different a d item.what)) (EndsDiffer item.line) ++ ends_faults a d items

-- the fault of a request file that makes more than 1,000 variables
abbrev pub variable_faults : Asked → Database → List ResolutionFault
variable_faults a d = fault_unless (nat_le (length (owners a d)) 1000) TooManyVariables

-- the link is fixed, and neither its interface has a present cost nor is there a default
abbrev pub lacks_cost : Asked → Linked → Range → Bool
lacks_cost a link (Within lo hi) = false
lacks_cost a link AsItIs = is_missing link.cost a.default_cost
  where
    is_missing : Option ℕ → Option ℕ → Bool
    is_missing None None = true
    is_missing _ _ = false

-- the faults of the fixed links without a cost, from number l on
abbrev pub cost_faults : Asked → Database → ℕ → List Linked → List ResolutionFault
cost_faults a d l [] = []
cost_faults a d l (link ∷ links) =
    (if lacks_cost a link (range_of a d link) then NoCost l ∷ [] else []) ++ cost_faults a d (l + 1) links

-- the faults after all lines: different ends, then too many variables, then links without a cost
abbrev pub whole_faults : Asked → Database → List ResolutionFault
whole_faults a d = ends_faults a d a.items ++ variable_faults a d ++ cost_faults a d 0 d.links

-- all faults of a request file in a database, in order: those of the lines, then those of the whole
abbrev pub resolution_faults : Asked → Database → List ResolutionFault
resolution_faults a d = line_faults d a.items ++ whole_faults a d

-- the first fault of a request file in a database
abbrev pub resolution_fault : Asked → Database → Option ResolutionFault
resolution_fault a d = first_of (resolution_faults a d)

-- The present network, in which every interface is fixed.

-- a line says which interfaces are free
abbrev pub says_freedom : Directive → Bool
says_freedom (FreeAll lo hi) = true
says_freedom (Free router interface lo hi) = true
says_freedom (Fix router interface) = true
says_freedom _ = false

-- the present request file: the request file without its lines on freedom
abbrev pub present_asked : Asked → Asked
present_asked a = record a { items = filter (λ item. not (says_freedom item.what)) a.items }

-- the first fault of the present network: names and paths are looked up line by line, and then each link needs a cost
abbrev pub present_fault : Asked → Database → Option ResolutionFault
present_fault a d = first_of (line_faults d a.items ++ cost_faults (present_asked a) d 0 d.links)

-- the problem of the present network: every link is fixed at its present cost
abbrev pub present_problem_of : Asked → Database → DesignProblem
present_problem_of a d = problem_of (present_asked a) d
