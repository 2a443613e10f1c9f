-- Requests beside the present costs: their faults, and the present cost of each variable.
use Rattle.std.specs.Prelude.{ℕ, ◌+◌, List, [], ◌∷◌, ◌++◌, ◌==◌, ◌&&◌, nat_le, if◌then◌else◌, Option, Some, None, map, length, slice_index}
use Rattle.std.specs.List.{list_all}
use Rattle.cost_base.specs.Lists.{numbers_from, first_of}
use Rattle.lsdb_build.specs.declared.Linked.{Linked}
use Rattle.lsdb_build.specs.Graphs.{Database}
use Rattle.request_reader.specs.Asked.{Asked}
use Rattle.wanted_paths.specs.declared.fault.ResolutionFault.{ResolutionFault}
use Rattle.wanted_paths.specs.LineFaults.{line_faults}
use Rattle.path_requests.specs.Meaning.{range_of, is_free, variable_of, present_cost, problem_of}
use Rattle.path_requests.specs.Resolving.{ends_faults, variable_faults, cost_faults, present_asked}

-- all faults of a request file beside present costs, in order: those of the lines, ends that differ, too many
-- variables; and then, as in the present network, each link without a cost, free or not
abbrev pub faults_beside_present : Asked → Database → List ResolutionFault
faults_beside_present a d =
    line_faults d a.items ++ ends_faults a d a.items ++ variable_faults a d ++ cost_faults (present_asked a) d 0 d.links

-- the first fault of a request file beside present costs
abbrev pub fault_beside_present : Asked → Database → Option ResolutionFault
fault_beside_present a d = first_of (faults_beside_present a d)

-- the present costs of the links that have the variable of number k, from link l on
abbrev pub costs_of_variable : Asked → Database → ℕ → ℕ → List Linked → List ℕ
costs_of_variable a d k l [] = []
costs_of_variable a d k l (link ∷ links) =
    (if is_free (range_of a d link) && variable_of a d l == k then present_cost a link ∷ [] else [])
    ++ costs_of_variable a d k (l + 1) links

-- the present cost of each link, in order: its own, else the default
abbrev pub present_of_links : Asked → Database → List ℕ
present_of_links a d = map (present_cost a) d.links

-- the cost that all of some costs are, where there is one
abbrev pub common_cost : List ℕ → Option ℕ
common_cost [] = None
common_cost (cost ∷ costs) = if list_all (λ other. other == cost) costs then Some cost else None

-- a cost, where it lies within bounds
abbrev pub if_within : ℕ → ℕ → Option ℕ → Option ℕ
if_within low high None = None
if_within low high (Some cost) = if nat_le low cost && nat_le cost high then Some cost else None

-- the present cost of the variable of number k: that of each of its links, where they have one and it lies within its
-- bounds
abbrev pub present_of_variable : Asked → Database → ℕ → Option ℕ
present_of_variable a d k =
    if_within (slice_index (problem_of a d).low k) (slice_index (problem_of a d).high k) (common_cost (costs_of_variable a d k 0 d.links))

-- the present cost of each variable, where it has one
abbrev pub present_of_variables : Asked → Database → List (Option ℕ)
present_of_variables a d = map (present_of_variable a d) (numbers_from 0 (length (problem_of a d).low))
