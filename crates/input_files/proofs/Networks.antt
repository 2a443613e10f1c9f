-- The network that was made is that of the input.
use Rattle.std.proofs.Common.{◌≡◌, refl, sym, ◌∙◌, ap, subst, List, [], ◌++◌, None, Ok}
use Rattle.cost_base.specs.Histories.{Taken}
use Rattle.interface_model.specs.Records.{Router}
use Rattle.lsdb_build.specs.Graphs.{Database, IsAreaDatabase}
use Rattle.lsdb_build.specs.Topology.{topology_fault, database_of}
use Rattle.design_problem.specs.Problems.{DesignProblem}
use Rattle.request_reader.specs.Asked.{Asked, IsAsked as IsLawful}
use Rattle.input_files.specs.declared.problem.View.{View}
use Rattle.input_files.specs.declared.network.Network.{Network}
use Rattle.input_files.specs.Inputs.{InputFiles}
use Rattle.input_files.specs.Readings.{Reading, Take, Refused, Ready, Says, EndsAs, Gave}
use Rattle.input_files.specs.Outcomes.{ConfigFile, Input, request_read, configs_read, routers_of, topology_read, topology_refused_at, problem_read, outcome}
use Rattle.input_files.specs.Networks.{IsNetworkOf}
use Rattle.input_files.specs.Stops.{IsReadAndMade}
use Rattle.input_files.proofs.Readings.{ends_then, one_said, said_faulty, said_unless}
use Rattle.input_files.proofs.Stops.{read_then, gave_then, gave_made}
use Rattle.input_files.proofs.Problems.{after_topology, after_configs, after_request, IsAsked, AreRouters, IsProblemOf}

-- a reading of no file that says something is ready
pub ready_is : {A : Type 0} (m : Reading A) (x : A) → EndsAs m [] (Says x) → m ≡ Ready x
ready_is (Ready y) x ends = sym (ap Ready (one_said x y ends))
ready_is (Refused r) x ends = absurd (said_faulty x r ends)
ready_is (Take name most next) x ends = absurd ends

-- what was read, made and resolved
pub record AreParts (network : Network) (asked : Asked) (routers : List Router) (d : Database) (p : DesignProblem) : Type 0 where
  pub request_file : network.request_file ≡ asked
  pub configs : network.configs.items ≡ routers
  pub lsdb : network.lsdb ≡ d
  pub problem : network.problem ≡ p

pub network_is : (First Later Both : List Taken → Type 0) (view : View) (names : InputFiles) (network : Network)
    (request_file : Asked) (routers : List Router) (d : Database) (p : DesignProblem) →
    ((xs ys : List Taken) → First xs → Later ys → Both (xs ++ ys)) → IsAreaDatabase d → IsLawful request_file →
    AreParts network request_file routers d p →
    Gave First (λ came. IsReadAndMade (request_read names.request) came IsAsked request_file) →
    Gave Later (λ came. IsReadAndMade (configs_read names.configs) came AreRouters routers) →
    IsReadAndMade (topology_read names request_file.area routers) [] (λ made read. made ≡ read) d →
    IsReadAndMade (problem_read view names request_file d) [] (λ made read. made ≡ read) p →
    Gave Both (λ came. IsReadAndMade (outcome view names) came (IsNetworkOf view names) network)
network_is First Later Both view names network request_file routers d p more base lawful parts a b made solved =
    gave_then First Later Both (request_read names.request) (after_request view names) IsAsked (IsNetworkOf view names) request_file (Ok network) more a
    (λ asked same. gave_made Later (configs_read names.configs) (after_configs view names asked) AreRouters (IsNetworkOf view names) routers (Ok network) b
    (λ files are. read_then (topology_read names asked.area (routers_of files)) (after_topology view names asked files)
    [] [] (λ m read. m ≡ read) (IsNetworkOf view names) d (Ok network)
    (moved asked files same are) (λ read is. said asked files read same are is)))
  where
    moved : (asked : Asked) (files : List ConfigFile) → request_file ≡ asked → routers ≡ routers_of files →
        IsReadAndMade (topology_read names asked.area (routers_of files)) [] (λ m read. m ≡ read) d
    moved asked files same are =
        subst (λ (x : Asked). IsReadAndMade (topology_read names x.area (routers_of files)) [] (λ m read. m ≡ read) d) same
        (subst (λ (rs : List Router). IsReadAndMade (topology_read names request_file.area rs) [] (λ m read. m ≡ read) d) are made)

    said : (asked : Asked) (files : List ConfigFile) (read : Database) → request_file ≡ asked → routers ≡ routers_of files →
        d ≡ read → IsReadAndMade (after_topology view names asked files read) [] (IsNetworkOf view names) network
    said asked files read same are is =
        let x : Input = record { asked = asked; files = files; database = read; problem = solved.said } in
        let ends : EndsAs (problem_read view names asked read) [] (Says solved.said) =
        subst (λ (q : Asked). EndsAs (problem_read view names q read) [] (Says solved.said)) same
        (subst (λ (e : Database). EndsAs (problem_read view names request_file e) [] (Says solved.said)) is
        solved.ends) in
        let built = moved asked files same are in
        let whole = said_unless (topology_refused_at names) (database_of asked.area (routers_of files)) built.said
        (topology_fault asked.area (routers_of files)) [] built.ends in
        record {
          said = x;
          ends = ends_then (problem_read view names asked read)
              (λ q. Ready (record { asked = asked; files = files; database = read; problem = q })) [] [] solved.said
              (Says x) ends refl;
          fits = record {
            request_file = parts.request_file ∙ same;
            configs = parts.configs ∙ are;
            lsdb = parts.lsdb ∙ is;
            problem = parts.problem ∙ solved.fits;
            asked = subst IsLawful same lawful;
            base = subst IsAreaDatabase is base;
            faultless = whole.0;
            built = sym is ∙ built.fits ∙ whole.1;
            resolved = ready_is (problem_read view names asked read) solved.said ends;
          };
        }

-- its problem is that of the input
pub problem_in : (Given : List Taken → Type 0) (view : View) (names : InputFiles) (network : Network) →
    Gave Given (λ came. IsReadAndMade (outcome view names) came (IsNetworkOf view names) network) →
    Gave Given (λ came. IsReadAndMade (outcome view names) came IsProblemOf network.problem)
problem_in Given view names network a =
    record { came = a.came; given = a.given; so = record { said = a.so.said; ends = a.so.ends; fits = (sym a.so.fits.problem, a.so.fits.base) } }
