-- The cost lines that differ from the present ones.
use Rattle.std.specs.Prelude.{ℕ, ◌+◌, ◌==◌, ◌&&◌, not, if◌then◌else◌, List, [], ◌∷◌, ◌++◌, map, slice_index, slice_index_or, Option, Some, None}
use Rattle.area_graph.specs.declared.Price.{Price}
use Rattle.area_graph.specs.declared.Price.TheVariants.{Fixed, Var, Zero}
use Rattle.lsdb_build.specs.declared.Linked.{Linked}
use Rattle.lsdb_build.specs.Graphs.{Database}
use Rattle.design_problem.specs.declared.answer.CostLine.{CostLine}
use Rattle.design_problem.specs.declared.problem.VarName.{VarName}
use Rattle.request_reader.specs.Asked.{Asked}
use Rattle.path_requests.specs.Meaning.{is_free, present_cost, range_of, variable_of}
use Rattle.printed_rows.specs.PrintedCosts.{named_cost}

-- the free interfaces whose present cost isn't that of their variable, from link l on
abbrev pub changed_names_from : Asked → Database → List ℕ → ℕ → List Linked → List VarName
changed_names_from a d w l [] = []
changed_names_from a d w l (link ∷ links) =
    (if is_free (range_of a d link) && not (present_cost a link == slice_index w (variable_of a d l)) then
    record {
      router = slice_index_or d.routers link.router [];
      interface = link.interface;
      var = variable_of a d l;
    } ∷ [] else [])
    ++ changed_names_from a d w (l + 1) links

-- the free interfaces that costs change, in the order of the linked interfaces
abbrev pub changed_names : Asked → Database → List ℕ → List VarName
changed_names a d w = changed_names_from a d w 0 d.links

-- the cost lines of the free interfaces that costs change
abbrev pub changed_lines : Asked → Database → List ℕ → List CostLine
changed_lines a d w = map (named_cost w) (changed_names a d w)

-- Link by link. No public clause cites these.

-- the new cost of a link at this price, where it isn't the link's present one
abbrev pub changed_cost : Price → ℕ → List ℕ → Option ℕ
changed_cost (Fixed cost) present w = None
changed_cost (Var v) present w = if present == slice_index w v then None else Some (slice_index w v)
changed_cost Zero present w = None

-- the cost line of a link that gets a new cost; no line where it gets none
abbrev pub line_with : Database → Linked → Option ℕ → List CostLine
line_with d link None = []
line_with d link (Some cost) = record { router = slice_index_or d.routers link.router []; interface = link.interface; cost = cost } ∷ []
