-- What is known of well-formed input whose interfaces are free as requested, also beside the present costs.
use Rattle.std.proofs.Common.{◌≡◌, refl, sym, subst, get_or, List, ℕ, [], ◌∷◌, Option, Some, None, All}
use Rattle.std.specs.Prelude.{Result, Ok, Err}
use Rattle.std.proofs.lemmas.List.Elements.{All-nil, All-cons, All-map}
use Rattle.cost_base.specs.declared.ShelfStop.{ShelfStop}
use Rattle.cost_base.specs.declared.ShelfStop.TheVariants as stop
use Rattle.cost_base.specs.Histories.{Taken}
use Rattle.text_lines.specs.LineFaults.{FaultyLine}
use Rattle.interface_model.specs.Records.{IsRouter}
use Rattle.config_reader.specs.FaultList.{Fault, config_fault}
use Rattle.config_reader.specs.Configs.{config_of}
use Rattle.config_reader.proofs.AcceptedRecords.{accepted_keeps}
use Rattle.lsdb_build.specs.Graphs.{Database, IsAreaDatabase}
use Rattle.lsdb_build.specs.Topology.{FaultyPlace, topology_fault, database_of}
use Rattle.lsdb_build.proofs.Databases.{database_is}
use Rattle.design_problem.specs.Problems.{DesignProblem, IsProblem}
use Rattle.request_reader.specs.FaultNumbers.{request_fault_number}
use Rattle.request_reader.specs.Asked.{Asked, IsAsked}
use Rattle.request_reader.specs.Reading.{request_fault, asked_by}
use Rattle.request_reader.proofs.AskedRules.{asked_keeps}
use Rattle.path_requests.specs.Meaning.{problem_of}
use Rattle.path_requests.proofs.ResolvedProblems.{resolved_is_problem}
use Rattle.wanted_paths.specs.declared.fault.ResolutionFault.{ResolutionFault}
use Rattle.path_requests.specs.Resolving.{resolution_fault}
use Rattle.present_costs.specs.PresentCosts.{fault_beside_present}
use Rattle.present_costs.proofs.FaultsBeside.{beside_then_resolved}
use Rattle.input_files.specs.declared.problem.View.{View}
use Rattle.input_files.specs.declared.problem.View.TheVariants.{AsRequested, BesidePresent}
use Rattle.input_files.specs.Inputs.{InputFiles}
use Rattle.input_files.specs.Readings.{Reading, Ready, ◌>>=◌, unless_refused, line_refused, Says, Faulty, Failed, EndsAs, OnCame, too_long}
use Rattle.input_files.proofs.Readings.{one_said, said_faulty, said_failed, said_unless, was_read}
use Rattle.input_files.specs.Outcomes.{ConfigFile, Input, request_read, config_read, config_refused, configs_read, routers_of, topology_read, topology_refused_at, problem_read, resolution_refused, outcome}

-- no configuration and not the topology has a fault; the database is that of the configurations, and the problem that
-- of the request file
pub record IsReadyInput (d : Input) : Type 0 where
  pub accepted : All (λ file. config_fault file.name file.bytes ≡ None) d.files
  pub faultless : topology_fault d.asked.area (routers_of d.files) ≡ None
  pub database_is : d.database ≡ database_of d.asked.area (routers_of d.files)
  pub base : IsAreaDatabase d.database
  pub problem_is : d.problem ≡ problem_of d.asked d.database
  pub kept : IsProblem d.problem

-- a file whose bytes say something came whole
pub came_whole : {A B : Type 0} (came : Result (List ℕ) ShelfStop) (next : List ℕ → Reading A) (more : List Taken) (x : A) (name : List ℕ) →
    OnCame came (λ bytes. EndsAs (next bytes) more (Says x)) ((more ≡ []) × (Says x ≡ Faulty (too_long name)))
    ((more ≡ []) × (Says x ≡ Failed name)) → ((bytes : List ℕ) → EndsAs (next bytes) more (Says x) → B) → B
came_whole (Ok bytes) next more x name is so = so bytes is
came_whole (Err stop.TooLong) next more x name is so = absurd (said_faulty x (too_long name) is.1)
came_whole (Err stop.Failed) next more x name is so = absurd (said_failed x name is.1)
came_whole (Err stop.OutOfMemory) next more x name is so = absurd is

request_ready : (name : List ℕ) (came : List Taken) (asked : Asked) → EndsAs (request_read name) came (Says asked) → IsAsked asked
request_ready name [] asked is = absurd is
request_ready name (taken ∷ more) asked is =
    came_whole taken.came (λ bytes. unless_refused (line_refused request_fault_number name) (asked_by bytes) (request_fault bytes)) more asked name is.2
    (λ bytes ends.
    (let said = said_unless (line_refused request_fault_number name) (asked_by bytes) asked (request_fault bytes) more ends in
    subst IsAsked (sym said.1) (asked_keeps bytes said.0)))

abbrev config_at : List ℕ → List ℕ → ConfigFile
config_at name bytes = record { name = name; bytes = bytes }

file_ready : (name : List ℕ) (came : List Taken) (file : ConfigFile) → EndsAs (config_read name) came (Says file) →
    config_fault file.name file.bytes ≡ None
file_ready name [] file is = absurd is
file_ready name (taken ∷ more) file is =
    came_whole taken.came (λ bytes. unless_refused (config_refused name) (config_at name bytes) (config_fault name bytes)) more file name is.2
    (λ bytes ends.
    (let said = said_unless (config_refused name) (config_at name bytes) file (config_fault name bytes) more ends in
    subst (λ (f : ConfigFile). config_fault f.name f.bytes ≡ None) (sym said.1) said.0))

abbrev AreAccepted : List ConfigFile → Type 0
AreAccepted files = All (λ (file : ConfigFile). config_fault file.name file.bytes ≡ None) files

-- that a list is ready
list_ready : {X : Type 0} (P : List X → Type 0) (made xs : List X) (came : List Taken) → EndsAs (Ready made) came (Says xs) → P made → P xs
list_ready P made xs [] is holds = subst P (sym (one_said xs made is)) holds
list_ready P made xs (taken ∷ more) is holds = absurd is

files_ready : (names : List (List ℕ)) (came : List Taken) (files : List ConfigFile) → EndsAs (configs_read names) came (Says files) → AreAccepted files
files_ready [] came files is = list_ready AreAccepted [] files came is (All-nil (λ (file : ConfigFile). config_fault file.name file.bytes ≡ None))
files_ready (name ∷ names) came files is =
    let first = was_read (config_read name) (λ file. configs_read names >>= λ others. Ready (file ∷ others)) came files is in
    let rest = was_read (configs_read names) (λ others. Ready (first.value ∷ others)) first.later files first.then_said in
    list_ready AreAccepted (first.value ∷ rest.value) files rest.later rest.then_said
    (All-cons (λ (file : ConfigFile). config_fault file.name file.bytes ≡ None) first.value rest.value
    (file_ready name first.first first.value first.said) (files_ready names rest.first rest.value rest.said))

-- what such configurations say are routers
routers_kept : (files : List ConfigFile) → AreAccepted files → All IsRouter (routers_of files)
routers_kept files accepted = All-map IsRouter (λ (file : ConfigFile). config_of file.name file.bytes) files
    (λ k file within. accepted_keeps (get_or files k file).name (get_or files k file).bytes (accepted k file within))

input_ready : (made d : Input) (came : List Taken) → EndsAs (Ready made) came (Says d) → IsReadyInput made → IsReadyInput d
input_ready made d [] is ready = subst (λ (e : Input). IsReadyInput e) (sym (one_said d made is)) ready
input_ready made d (taken ∷ more) is ready = absurd is

-- a view whose problem is that of the request file
abbrev IsOfRequests : View → Type 0
IsOfRequests view = (names : InputFiles) (asked : Asked) (d : Database) (p : DesignProblem) (came : List Taken) →
    EndsAs (problem_read view names asked d) came (Says p) → (resolution_fault asked d ≡ None) × (p ≡ problem_of asked d)

as_requested : IsOfRequests AsRequested
as_requested = λ names asked d p came said. said_unless (resolution_refused names d) (problem_of asked d) p (resolution_fault asked d) came said

beside_present : IsOfRequests BesidePresent
beside_present = λ names asked d p came said.
    let made = said_unless (resolution_refused names d) (problem_of asked d) p (fault_beside_present asked d) came said in
    (beside_then_resolved asked d made.0, made.1)

-- The rest of a reading behind each step.

abbrev after_problem : Asked → List ConfigFile → Database → DesignProblem → Reading Input
after_problem asked files d p = Ready (record { asked = asked; files = files; database = d; problem = p })

abbrev after_topology : View → InputFiles → Asked → List ConfigFile → Database → Reading Input
after_topology view names asked files d = problem_read view names asked d >>= after_problem asked files d

abbrev after_configs : View → InputFiles → Asked → List ConfigFile → Reading Input
after_configs view names asked files = topology_read names asked.area (routers_of files) >>= after_topology view names asked files

abbrev after_request : View → InputFiles → Asked → Reading Input
after_request view names asked = configs_read names.configs >>= after_configs view names asked

ready_in : (view : View) (names : InputFiles) (d : Input) (came : List Taken) → IsOfRequests view →
    EndsAs (outcome view names) came (Says d) → IsReadyInput d
ready_in view names d came of_requests is =
    let asked = was_read (request_read names.request) (after_request view names) came d is in
    let files = was_read (configs_read names.configs) (after_configs view names asked.value) asked.later d asked.then_said in
    let base = was_read (topology_read names asked.value.area (routers_of files.value))
    (after_topology view names asked.value files.value) files.later d files.then_said in
    let problem = was_read (problem_read view names asked.value base.value)
    (after_problem asked.value files.value base.value) base.later d base.then_said in
    let accepted = files_ready names.configs files.first files.value files.said in
    let built = said_unless (topology_refused_at names) (database_of asked.value.area (routers_of files.value)) base.value
    (topology_fault asked.value.area (routers_of files.value)) base.first base.said in
    let database : IsAreaDatabase base.value = subst IsAreaDatabase (sym built.1)
    (database_is asked.value.area (routers_of files.value) built.0 (routers_kept files.value accepted)) in
    let made : (resolution_fault asked.value base.value ≡ None) × (problem.value ≡ problem_of asked.value base.value)
    = of_requests names asked.value base.value problem.value problem.first problem.said in
    input_ready (record { asked = asked.value; files = files.value; database = base.value; problem = problem.value }) d problem.later problem.then_said
    (record {
      accepted = accepted;
      faultless = built.0;
      database_is = built.1;
      base = database;
      problem_is = made.1;
      kept = subst IsProblem (sym made.1)
          (resolved_is_problem asked.value base.value (request_ready names.request asked.first asked.value asked.said) database made.0);
    })

-- as requested
pub ready_is : (names : InputFiles) (d : Input) (came : List Taken) → EndsAs (outcome AsRequested names) came (Says d) → IsReadyInput d
ready_is names d came is = ready_in AsRequested names d came as_requested is

-- and beside the present costs
pub ready_beside_present : (names : InputFiles) (d : Input) (came : List Taken) → EndsAs (outcome BesidePresent names) came (Says d) → IsReadyInput d
ready_beside_present names d came is = ready_in BesidePresent names d came beside_present is
