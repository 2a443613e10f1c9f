-- The readings of words, one bound after another, as the code makes them.
use Rattle.std.proofs.Common.{◌≡◌, refl, sym, ◌∙◌, subst, List, [], ◌++◌, Option, Result, Ok, Err}
use Rattle.std.specs.Prelude.{Vec}
use Rattle.std.specs.declared.alloc.Global.{Global}
use Rattle.cost_base.specs.declared.refusal.Refusal.{Refusal}
use Rattle.cost_base.specs.declared.refusal.Refusal.TheVariants as refusals
use Rattle.cost_base.specs.Histories.{Taken}
use Rattle.interface_model.specs.Records.{Router}
use Rattle.lsdb_build.specs.Graphs.{Database, IsAreaDatabase}
use Rattle.design_problem.specs.Problems.{DesignProblem}
use Rattle.request_reader.specs.Asked.{Asked}
use Rattle.wanted_paths.specs.declared.fault.ResolutionFault.{ResolutionFault}
use Rattle.wanted_paths.specs.LineFaults.{TellsResolution}
use Rattle.input_files.specs.declared.stop.Stop.{Stop}
use Rattle.input_files.specs.declared.problem.View.{View}
use Rattle.input_files.specs.Inputs.{InputFiles}
use Rattle.input_files.specs.Readings.{Reading, Ready, ◌>>=◌, unless_refused, Says, Gave}
use Rattle.input_files.specs.Outcomes.{ConfigFile, Input, request_read, configs_read, routers_of, topology_read, problem_read, resolution_refused, outcome}
use Rattle.input_files.specs.Stops.{StopsAs, IsReadAndMade, IsReadAs, IsStopOf}
use Rattle.input_files.proofs.Readings.{ends_then}
use Rattle.input_files.proofs.Stops.{fault_stops, memory_stops, stops_first, read_then, gave_then, gave_made, gave_stop}

-- The rest of a reading behind each step.

abbrev pub after_topology : View → InputFiles → Asked → List ConfigFile → Database → Reading Input
after_topology view names asked files d =
    problem_read view names asked d >>= λ p. Ready (record { asked = asked; files = files; database = d; problem = p })

abbrev pub after_configs : View → InputFiles → Asked → List ConfigFile → Reading Input
after_configs view names asked files =
    topology_read names asked.area (routers_of files) >>= λ d. after_topology view names asked files d

abbrev pub after_request : View → InputFiles → Asked → Reading Input
after_request view names asked = configs_read names.configs >>= λ files. after_configs view names asked files

-- a problem is that of the input, whose database is one
abbrev pub IsProblemOf : DesignProblem → Input → Type 0
IsProblemOf p d = (d.problem ≡ p) × IsAreaDatabase d.database

abbrev pub IsAsked : Asked → Asked → Type 0
IsAsked r asked = r ≡ asked

abbrev pub AreRouters : List Router → List ConfigFile → Type 0
AreRouters routers files = routers ≡ routers_of files

-- what stops the request file stops all
pub request_stops : (Given : List Taken → Type 0) (view : View) (names : InputFiles) (stop : Stop) →
    Gave Given (λ came. StopsAs (request_read names.request) came stop) →
    Gave Given (λ came. StopsAs (outcome view names) came stop)
request_stops Given view names stop a = gave_stop Given (request_read names.request) (after_request view names) stop a

-- what stops the configurations stops all
pub configs_stop : (First Later Both : List Taken → Type 0) (view : View) (names : InputFiles) (request_file : Asked)
    (stop : Stop) → ((xs ys : List Taken) → First xs → Later ys → Both (xs ++ ys)) →
    Gave First (λ came. IsReadAndMade (request_read names.request) came IsAsked request_file) →
    Gave Later (λ came. StopsAs (configs_read names.configs) came stop) →
    Gave Both (λ came. StopsAs (outcome view names) came stop)
configs_stop First Later Both view names request_file stop more a b =
    gave_then First Later Both (request_read names.request) (after_request view names) IsAsked IsProblemOf request_file (Err stop) more a
    (λ asked same. gave_stop Later (configs_read names.configs) (after_configs view names asked) stop b)

-- what stops the topology stops all
pub topology_stops : (First Later Both : List Taken → Type 0) (view : View) (names : InputFiles) (request_file : Asked)
    (routers : List Router) (stop : Stop) → ((xs ys : List Taken) → First xs → Later ys → Both (xs ++ ys)) →
    Gave First (λ came. IsReadAndMade (request_read names.request) came IsAsked request_file) →
    Gave Later (λ came. IsReadAndMade (configs_read names.configs) came AreRouters routers) →
    StopsAs (topology_read names request_file.area routers) [] stop → Gave Both (λ came. StopsAs (outcome view names) came stop)
topology_stops First Later Both view names request_file routers stop more a b h =
    gave_then First Later Both (request_read names.request) (after_request view names) IsAsked IsProblemOf request_file (Err stop) more a
    (λ asked same. gave_made Later (configs_read names.configs) (after_configs view names asked) AreRouters IsProblemOf routers (Err stop) b
    (λ files are. stops_first (topology_read names asked.area (routers_of files)) (after_topology view names asked files) [] stop
    (subst (λ (x : Asked). StopsAs (topology_read names x.area (routers_of files)) [] stop) same
    (subst (λ (rs : List Router). StopsAs (topology_read names request_file.area rs) [] stop) are h))))

problem_of_input : (view : View) (names : InputFiles) (asked : Asked) (files : List ConfigFile) (d : Database)
    (result : Result DesignProblem Stop) → IsAreaDatabase d →
    IsReadAs (problem_read view names asked d) [] (λ p read. p ≡ read) result → IsReadAs (after_topology view names asked files d) [] IsProblemOf result
problem_of_input view names asked files d (Ok p) base h =
    let x : Input = record { asked = asked; files = files; database = d; problem = h.said } in
    record {
      said = x;
      ends = ends_then (problem_read view names asked d)
          (λ q. Ready (record { asked = asked; files = files; database = d; problem = q })) [] [] h.said
          (Says x) h.ends refl;
      fits = (sym h.fits, base);
    }
problem_of_input view names asked files d (Err stop) base h =
    stops_first (problem_read view names asked d) (λ q. Ready (record { asked = asked; files = files; database = d; problem = q })) [] stop h

-- the problem that was made, or what stopped it, is as the files say
pub problem_is : (First Later Both : List Taken → Type 0) (view : View) (names : InputFiles) (request_file : Asked)
    (routers : List Router) (d : Database) (result : Result DesignProblem Stop) →
    ((xs ys : List Taken) → First xs → Later ys → Both (xs ++ ys)) → IsAreaDatabase d →
    Gave First (λ came. IsReadAndMade (request_read names.request) came IsAsked request_file) →
    Gave Later (λ came. IsReadAndMade (configs_read names.configs) came AreRouters routers) →
    IsReadAndMade (topology_read names request_file.area routers) [] (λ made read. made ≡ read) d →
    IsReadAs (problem_read view names request_file d) [] (λ p read. p ≡ read) result →
    Gave Both (λ came. IsReadAs (outcome view names) came IsProblemOf result)
problem_is First Later Both view names request_file routers d result more base a b made solved =
    gave_then First Later Both (request_read names.request) (after_request view names) IsAsked IsProblemOf request_file result more a
    (λ asked same. gave_made Later (configs_read names.configs) (after_configs view names asked) AreRouters IsProblemOf routers result b
    (λ files are. read_then (topology_read names asked.area (routers_of files)) (after_topology view names asked files)
    [] [] (λ m read. m ≡ read) IsProblemOf d result
    (subst (λ (x : Asked). IsReadAndMade (topology_read names x.area (routers_of files)) [] (λ m read. m ≡ read) d) same
    (subst (λ (rs : List Router).
    IsReadAndMade (topology_read names request_file.area rs) [] (λ m read. m ≡ read) d) are made))
    (λ read is. problem_of_input view names asked files read result (subst (λ (e : Database). IsAreaDatabase e) is base)
    (subst (λ (e : Database). IsReadAs (problem_read view names asked e) [] (λ p q. p ≡ q) result) is
    (subst (λ (x : Asked). IsReadAs (problem_read view names x d) [] (λ p q. p ≡ q) result) same solved)))))

-- what the vector of routers holds was read
pub routers_of_vector : (Given : List Taken → Type 0) (names : InputFiles) (configs : Vec Router Global) (routers : List Router) → routers ≡ configs.items →
    Gave Given (λ came. IsReadAndMade (configs_read names.configs) came
    (λ (v : Vec Router Global) files. v.items ≡ routers_of files) configs) →
    Gave Given (λ came. IsReadAndMade (configs_read names.configs) came AreRouters routers)
routers_of_vector Given names configs routers same a =
    record { came = a.came; given = a.given; so = record { said = a.so.said; ends = a.so.ends; fits = same ∙ a.so.fits } }

-- a refusal of resolution stops what is read of the problem, or of the lines
pub resolution_stops : {A : Type 0} (names : InputFiles) (d : Database) (said : A) (found : Option ResolutionFault)
    (refusal : Refusal ResolutionFault (Unit {0})) (stop : Stop) → TellsResolution found refusal →
    IsStopOf (λ fault _. resolution_refused names d fault) refusal stop →
    StopsAs (unless_refused (resolution_refused names d) said found) [] stop
resolution_stops names d said found (refusals.Refused fault place) stop tells is = fault_stops (resolution_refused names d) said found fault stop tells is
resolution_stops names d said found refusals.OutOfMemory stop tells is =
    memory_stops (unless_refused (resolution_refused names d) said found) stop is
