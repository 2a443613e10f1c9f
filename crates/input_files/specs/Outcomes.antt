-- What the files of a network say, read in their order: the request file, each configuration, the topology, resolution.
use Rattle.std.specs.Prelude.{ℕ, List, [], ◌∷◌, Option, Some, None, map, slice_get, slice_index_or}
use Rattle.lsdb_build.specs.declared.fault.ConfigLine.{ConfigLine}
use Rattle.lsdb_build.specs.declared.fault.TopologyFault.{TopologyFault}
use Rattle.interface_model.specs.Records.{Router}
use Rattle.config_reader.specs.Configs.{config_of}
use Rattle.config_reader.specs.FaultNumbers.{config_fault_number}
use Rattle.config_reader.specs.FaultList.{Fault, config_fault}
use Rattle.lsdb_build.specs.declared.Linked.{Linked}
use Rattle.lsdb_build.specs.Graphs.{Database}
use Rattle.lsdb_build.specs.FaultNumbers.{topology_fault_number}
use Rattle.lsdb_build.specs.Topology.{FaultyPlace, topology_fault, database_of}
use Rattle.design_problem.specs.Problems.{DesignProblem}
use Rattle.request_reader.specs.Asked.{Asked}
use Rattle.path_requests.specs.Meaning.{problem_of}
use Rattle.request_reader.specs.FaultNumbers.{request_fault_number}
use Rattle.request_reader.specs.Reading.{request_fault, asked_by}
use Rattle.wanted_paths.specs.declared.fault.ResolutionFault.{ResolutionFault}
use Rattle.wanted_paths.specs.declared.fault.ResolutionFault.TheVariants.{UnknownRouter, UnknownInterface, NotALink, BrokenPath, LoopPath, PathExcluded, EndsDiffer, TooManyVariables, NoCost}
use Rattle.wanted_paths.specs.FaultNumbers.{resolution_fault_number}
use Rattle.path_requests.specs.Resolving.{resolution_fault, present_fault, present_problem_of}
use Rattle.present_costs.specs.PresentCosts.{fault_beside_present}
use Rattle.input_files.specs.declared.problem.View.{View}
use Rattle.input_files.specs.declared.problem.View.TheVariants.{AsRequested, BesidePresent, AtPresent}
use Rattle.input_files.specs.Inputs.{InputFiles}
use Rattle.input_files.specs.Readings.{InputRefusal, Reading, Take, Ready, ◌>>=◌, unless_refused, place_refused, line_refused}

-- a configuration: its file's name and its bytes
pub record ConfigFile : Type 0 where
  pub name : List ℕ
  pub bytes : List ℕ

-- what well-formed input says
pub record Input : Type 0 where
  pub asked : Asked
  pub files : List ConfigFile
  pub database : Database
  pub problem : DesignProblem

-- the greatest length of a request file and of a configuration: 4 MiB
abbrev pub longest_file : ℕ
longest_file = 4194304

-- the greatest length of an answer: 1 GiB
abbrev pub longest_answer : ℕ
longest_answer = 1073741824

-- the bytes of a file of at most so many
abbrev pub file_read : ℕ → List ℕ → Reading (List ℕ)
file_read most name = Take name most (λ bytes. Ready bytes)

-- what is read of a request file: its size, and then its lines up to the first fault
abbrev pub request_read : List ℕ → Reading Asked
request_read name = file_read longest_file name >>= λ bytes. unless_refused (line_refused request_fault_number name) (asked_by bytes) (request_fault bytes)

-- how a fault of a configuration is refused
abbrev pub config_refused : List ℕ → Fault → InputRefusal
config_refused name fault = place_refused config_fault_number name (fault.fault, fault.line)

-- what is read of a configuration's file: its size, and then its lines up to the first fault
abbrev pub config_read : List ℕ → Reading ConfigFile
config_read name =
    file_read longest_file name >>= λ bytes.
    unless_refused (config_refused name) (record { name = name; bytes = bytes }) (config_fault name bytes)

-- what is read of the files of configurations, in the order of the words that name them
abbrev pub configs_read : List (List ℕ) → Reading (List ConfigFile)
configs_read [] = Ready []
configs_read (name ∷ names) =
    config_read name >>= λ file. configs_read names >>= λ files. Ready (file ∷ files)

-- the routers that configurations say
abbrev pub routers_of : List ConfigFile → List Router
routers_of files = map (λ file. config_of file.name file.bytes) files

-- the file of a router's configuration; there is one for each router
abbrev pub file_of : InputFiles → ℕ → List ℕ
file_of names router = slice_index_or names.configs router names.request

-- how a fault of a topology is refused: in the file of the configuration that it is of
abbrev pub topology_refused : InputFiles → TopologyFault → ConfigLine → InputRefusal
topology_refused names fault place = place_refused topology_fault_number (file_of names place.config) (fault, place.line)

-- how the first fault of a topology is refused
abbrev pub topology_refused_at : InputFiles → FaultyPlace → InputRefusal
topology_refused_at names place = topology_refused names place.fault (record { config = place.config; line = place.line })

-- what the configurations of an area make of it: its database, or the first fault of its topology
abbrev pub topology_read : InputFiles → ℕ → List Router → Reading Database
topology_read names area routers = unless_refused (topology_refused_at names) (database_of area routers) (topology_fault area routers)

-- a line of a file
pub record FilePlace : Type 0 where
  pub file : List ℕ
  pub line : ℕ

-- an interface without a cost is refused at its first head
abbrev pub place_of_head : InputFiles → Option Linked → FilePlace
place_of_head names None = record { file = names.request; line = 0 }
place_of_head names (Some link) = record { file = file_of names link.router; line = link.line }

-- the place of a fault of resolution: a line of the request file, but for an interface without a cost
abbrev pub resolution_place : InputFiles → Database → ResolutionFault → FilePlace
resolution_place names d (NoCost link) = place_of_head names (slice_get d.links link)
resolution_place names d (UnknownRouter line) = record { file = names.request; line = line }
resolution_place names d (UnknownInterface line) = record { file = names.request; line = line }
resolution_place names d (NotALink line) = record { file = names.request; line = line }
resolution_place names d (BrokenPath line hop) = record { file = names.request; line = line }
resolution_place names d (LoopPath line) = record { file = names.request; line = line }
resolution_place names d (PathExcluded line) = record { file = names.request; line = line }
resolution_place names d (EndsDiffer line) = record { file = names.request; line = line }
resolution_place names d TooManyVariables = record { file = names.request; line = 0 }

-- how a fault of resolution is refused
abbrev pub resolution_refused : InputFiles → Database → ResolutionFault → InputRefusal
resolution_refused names d fault =
    place_refused resolution_fault_number (resolution_place names d fault).file (fault, (resolution_place names d fault).line)

-- The problem that the request file makes of the database: with the interfaces that it frees, and so beside the present
-- costs; or with every interface as it is.
abbrev pub viewed_problem : View → Asked → Database → DesignProblem
viewed_problem AsRequested asked d = problem_of asked d
viewed_problem BesidePresent asked d = problem_of asked d
viewed_problem AtPresent asked d = present_problem_of asked d

-- the first fault of resolution; beside the present costs every interface needs one
abbrev pub viewed_fault : View → Asked → Database → Option ResolutionFault
viewed_fault AsRequested asked d = resolution_fault asked d
viewed_fault BesidePresent asked d = fault_beside_present asked d
viewed_fault AtPresent asked d = present_fault asked d

-- the problem that the request file makes of the database, or the first fault of resolution
abbrev pub problem_read : View → InputFiles → Asked → Database → Reading DesignProblem
problem_read view names asked d = unless_refused (resolution_refused names d) (viewed_problem view asked d) (viewed_fault view asked d)

-- what the files of a network say
abbrev pub outcome : View → InputFiles → Reading Input
outcome view names =
    request_read names.request >>= λ asked.
    configs_read names.configs >>= λ files.
    topology_read names asked.area (routers_of files) >>= λ d.
    problem_read view names asked d >>= λ p.
    Ready (record { asked = asked; files = files; database = d; problem = p })
