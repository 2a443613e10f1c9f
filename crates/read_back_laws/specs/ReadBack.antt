-- Costs read back: each configuration with its printed section after it, read as configurations are.
use Rattle.std.specs.Prelude.{◌≡◌, ℕ, ◌+◌, ◌≤◌, List, [], ◌∷◌, ◌++◌, ◌==◌, ◌&&◌, ◌||◌, if◌then◌else◌, Bool, true, false, Option, None, Some, All, codes, length, map, slice_get, slice_index, slice_index_or}
use Rattle.cost_base.specs.Lists.{same_bytes}
use Rattle.area_graph.specs.declared.Price.TheVariants.{Fixed}
use Rattle.area_graph.specs.Area.{Area}
use Rattle.text_lines.specs.Lines.{lines, words, ended, with_ends}
use Rattle.interface_model.specs.declared.Interface.{Interface}
use Rattle.interface_model.specs.Records.{Router}
use Rattle.config_reader.specs.Statements.{begin_with}
use Rattle.config_reader.specs.Configs.{config_of}
use Rattle.config_reader.specs.FaultList.{config_fault}
use Rattle.lsdb_build.specs.declared.Linked.{Linked}
use Rattle.lsdb_build.specs.Graphs.{Database, graph_at}
use Rattle.lsdb_build.specs.Topology.{database_of, topology_fault}
use Rattle.design_problem.specs.declared.answer.CostLine.{CostLine}
use Rattle.design_problem.specs.declared.problem.VarName.{VarName}
use Rattle.request_reader.specs.Asked.{Asked}
use Rattle.path_requests.specs.Meaning.{present_cost, range_of, is_free, variable_of}
use Rattle.present_costs.specs.AtCosts.{graph_with}
use Rattle.input_files.specs.Outcomes.{Input, ConfigFile}

-- whether a line opens the section of a router: `router NAME`
abbrev pub opens_section : List ℕ → List ℕ → Bool
opens_section name line = length (words line) == 2 && begin_with (codes "router" ∷ name ∷ []) (words line)

-- whether a line ends a section: it is a `router`, a `floor` or a `rows` line
abbrev pub ends_section : List ℕ → Bool
ends_section line =
    begin_with (codes "router" ∷ []) (words line) || begin_with (codes "floor" ∷ []) (words line) || begin_with (codes "rows" ∷ []) (words line)

-- the lines up to the next one that ends a section
abbrev pub until_end : List (List ℕ) → List (List ℕ)
until_end [] = []
until_end (line ∷ more) = if ends_section line then [] else line ∷ until_end more

-- the section of a router: the lines after `router NAME` up to the next that ends it
abbrev pub section : List ℕ → List (List ℕ) → List (List ℕ)
section name [] = []
section name (line ∷ more) = if opens_section name line then until_end more else section name more

-- a configuration with the router's section of a text behind it, and an LF before that where the last line lacks one
abbrev pub bytes_back : List ℕ → ConfigFile → List ℕ
bytes_back text file = ended file.bytes ++ with_ends (section (config_of file.name file.bytes).name (lines text))

-- the router that a configuration says with its section of a text behind it
abbrev pub router_read_back : List ℕ → ConfigFile → Router
router_read_back text file = config_of file.name (bytes_back text file)

-- the routers of all configurations, each with its section of the text
abbrev pub routers_back : List ℕ → List ConfigFile → List Router
routers_back text files = map (router_read_back text) files

-- the database of the network read back
abbrev pub database_back : Input → List ℕ → Database
database_back d text = database_of d.asked.area (routers_back text d.files)

-- the graph of the network read back: each linked interface at its cost there, or at the request file's default
abbrev pub graph_back : Input → List ℕ → Area
graph_back d text =
    graph_at (database_back d text) (map (λ link. Fixed (present_cost d.asked link)) (database_back d text).links)

-- the cost of the last variable that names an interface of a router; the given one where no variable does
abbrev pub cost_named : List ℕ → List VarName → List ℕ → List ℕ → Option ℕ → Option ℕ
cost_named w [] router interface before = before
cost_named w (name ∷ names) router interface before =
    cost_named w names router interface
    (if same_bytes name.router router && same_bytes name.interface interface then Some (slice_index w name.var) else before)

-- an interface of a router, with the cost of its variable where it is free
abbrev pub interface_with : List ℕ → List VarName → List ℕ → Interface → Interface
interface_with w names router i = record i { cost = cost_named w names router i.name i.cost }

-- a router with the costs of its free interfaces
abbrev pub router_with : List ℕ → List VarName → Router → Router
router_with w names r = record r { interfaces = map (interface_with w names r.name) r.interfaces }

-- whether a link is free and one of the chosen ones
abbrev pub is_chosen : (ℕ → Linked → Bool) → Asked → Database → ℕ → Linked → Bool
is_chosen chosen a d l link = is_free (range_of a d link) && chosen l link

-- the names of the free interfaces that are chosen, from link l on
abbrev pub names_where : (ℕ → Linked → Bool) → Asked → Database → ℕ → List Linked → List VarName
names_where chosen a d l [] = []
names_where chosen a d l (link ∷ links) =
    (if is_chosen chosen a d l link then
    record {
      router = slice_index_or d.routers link.router [];
      interface = link.interface;
      var = variable_of a d l;
    } ∷ [] else [])
    ++ names_where chosen a d (l + 1) links

-- the interfaces and costs of those of some cost lines that are a router's
abbrev pub pairs_of : List ℕ → List CostLine → List (List ℕ × ℕ)
pairs_of router [] = []
pairs_of router (line ∷ lines) =
    if same_bytes router line.router then (line.interface, line.cost) ∷ pairs_of router lines else pairs_of router lines

-- the names of the free interfaces of an input that are chosen
abbrev pub names_in : (ℕ → Linked → Bool) → Input → List VarName
names_in chosen d = names_where chosen d.asked d.database 0 d.database.links

-- the cost of a named variable is one that an interface may have: from 1 to 65,535
abbrev pub IsPrintable : List ℕ → VarName → Type 0
IsPrintable w name = (1 ≤ slice_index w name.var) × (slice_index w name.var ≤ 65535)

-- every free interface that isn't chosen has the cost of its variable at present
abbrev pub StandElse : (ℕ → Linked → Bool) → Asked → Database → List ℕ → Type 0
StandElse chosen a d w =
    (l : ℕ) (link : Linked) → slice_get d.links l ≡ Some link → is_free (range_of a d link) ≡ true → chosen l link ≡ false →
    present_cost a link ≡ slice_index w (variable_of a d l)

-- The configurations with their sections of the text are accepted, whatever their length: none has a fault. Each says
-- what it said before, with these costs of these interfaces. The topology that they make has no fault, and its graph is
-- the problem's at these costs: so every other free interface has the cost of its variable already.
pub record IsReadBackFor (d : Input) (names : List VarName) (text w : List ℕ) : Type 0 where
  pub accepted : All (λ file. config_fault file.name (bytes_back text file) ≡ None) d.files
  pub routers : All (λ file. router_read_back text file ≡ router_with w names (config_of file.name file.bytes)) d.files
  pub faultless : topology_fault d.asked.area (routers_back text d.files) ≡ None
  pub graph : graph_back d text ≡ graph_with w d.problem.graph

-- the costs of all free interfaces are read back from the configurations with their sections of a text
abbrev pub IsReadBack : Input → List ℕ → List ℕ → Type 0
IsReadBack d text w = IsReadBackFor d d.problem.vars text w
