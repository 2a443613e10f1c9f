-- What `lsas` made of the network that it read.
use Rattle.std.proofs.Common.{◌≡◌, ℕ, ◌^◌, ◌<◌, refl, sym, ◌∙◌, ap, subst, List, [], length, map, arith, Option, None, Some, Result, Ok, Err, Vec, IfOk, IfErr}
use Rattle.std.specs.Prelude.{All}
use Rattle.std.proofs.lemmas.List.{length-map}
use Rattle.cost_base.specs.Histories.{Taken}
use Rattle.cost_base.specs.declared.Status.TheVariants.{Done}
use Rattle.cost_base.specs.declared.Status.{Status}
use Rattle.area_graph.specs.declared.Price.TheVariants.{Fixed}
use Rattle.interface_model.specs.Records.{Router}
use Rattle.lsdb_build.specs.Graphs.{Database, graph_at}
use Rattle.lsdb_build.specs.Topology.{topology_fault, database_of}
use Rattle.request_reader.specs.Asked.{Asked}
use Rattle.path_requests.specs.Meaning.{present_cost}
use Rattle.input_files.specs.declared.problem.View.TheVariants.{AtPresent}
use Rattle.input_files.specs.declared.network.Network.{Network}
use Rattle.input_files.specs.declared.stop.Stop.{Stop}
use Rattle.input_files.specs.declared.stop.Stop.TheVariants as stops
use Rattle.input_files.specs.Inputs.{InputFiles}
use Rattle.input_files.specs.Networks.{IsNetworkOf}
use Rattle.input_files.specs.Readings.{Reading, unless_refused, Gave}
use Rattle.input_files.specs.Outcomes.{Input, routers_of}
use Rattle.input_files.specs.Stops.{IsReadAs, IsReadAndMade, StopsAs}
use Rattle.input_files.proofs.Stops.{gave_wanting}
use Rattle.input_files.proofs.Readings.{said_unless, says_unless}
use Rattle.input_files.proofs.PresentNetworks.{above_at_present, graph_at_present}
use Rattle.report_writer.specs.declared.report.Report.{Report}
use Rattle.report_writer.specs.Reports.{Reports, bytes_in}
use Rattle.lsa_bytes.specs.declared.ids.IdFault.{IdFault}
use Rattle.lsa_bytes.specs.Ids.{first_id_fault}
use Rattle.lsa_bytes.specs.Written.{bytes_of_all}
use Rattle.lsa_writer.specs.WrittenLsas.{written_lsas}
use Rattle.lsa_writer.specs.OneGraph.{IsDatabaseOf, SayGraph}
use Rattle.database_commands.specs.Identified.{IsIdentified}
use Rattle.present_costs.specs.PresentCosts.{present_of_links}
use Rattle.database_commands.specs.Lsas.{AreWritten, MayLsas, id_refused}

-- each present cost is above 0
pub costs_above : (names : InputFiles) (network : Network) (d : Input) → IsNetworkOf AtPresent names network d →
    All (λ cost. 0 < cost) (present_of_links d.asked d.database)
costs_above names network d is = above_at_present names d is.asked is.base is.resolved

-- the graph that an audit goes by
graph_is : (names : InputFiles) (network : Network) (d : Input) → IsNetworkOf AtPresent names network d →
    graph_at d.database (map Fixed (present_of_links d.asked d.database)) ≡ d.problem.graph
graph_is names network d is = sym (graph_at_present names d is.resolved)

pub is_built : (names : InputFiles) (network : Network) (d : Input) → IsNetworkOf AtPresent names network d → IsDatabaseOf network.configs.items network.lsdb
is_built names network d is = record {
  area = d.asked.area;
  faultless = ap (topology_fault d.asked.area) is.configs ∙ is.faultless;
  database = is.lsdb ∙ is.built ∙ sym (ap (database_of d.asked.area) is.configs);
}

pub few_configs : (names : InputFiles) (network : Network) (d : Input) → IsNetworkOf AtPresent names network d → length network.configs.items < 2 ^ 32
few_configs names network d is =
    omega (
      arith,
      ap length is.configs,
      ap (λ (x : Database). length x.routers) is.built,
      length-map (routers_of d.files) (λ (r : Router). r.name),
      is.base.routers,
    )

-- what was written of a network
pub are_written : (names : InputFiles) (network : Network) (d : Input) (costs bytes : List ℕ) →
    IsNetworkOf AtPresent names network d → costs ≡ map (present_cost network.request_file) network.lsdb.links →
    bytes ≡ bytes_of_all (written_lsas network.configs.items network.lsdb costs) → SayGraph bytes (graph_at network.lsdb (map Fixed costs)) → AreWritten d bytes
are_written names network d costs bytes is costs_are written graph =
    let present : costs ≡ present_of_links d.asked d.database = costs_are
    ∙ ap (λ (a : Asked). map (present_cost a) network.lsdb.links) is.request_file
    ∙ ap (λ (x : Database). map (present_cost d.asked) x.links) is.lsdb in
    record {
      written = written ∙ ap (λ (rs : List Router). bytes_of_all (written_lsas rs network.lsdb costs)) is.configs
          ∙ ap (λ (x : Database). bytes_of_all (written_lsas (routers_of d.files) x costs)) is.lsdb
          ∙ ap (λ cs. bytes_of_all (written_lsas (routers_of d.files) d.database cs)) present;
      one_graph = subst (SayGraph bytes) (ap (λ (x : Database). graph_at x (map Fixed costs)) is.lsdb
          ∙ ap (λ cs. graph_at d.database (map Fixed cs)) present ∙ graph_is names network d is) graph;
    }

-- what was written, where there was memory
pub wrote : {A E : Type 0} → (network : Network) (configs : List Router) (costs : List ℕ) (result : Result (Vec ℕ A) E) →
    configs ≡ network.configs.items → costs ≡ map (present_cost network.request_file) network.lsdb.links →
    IfOk result (λ bytes. bytes.items ≡ bytes_of_all (written_lsas configs network.lsdb costs)) →
    IfOk result (λ bytes. SayGraph bytes.items (graph_at network.lsdb (map Fixed costs))) →
    IfOk result (λ bytes. (names : InputFiles) → (d : Input) → IsNetworkOf AtPresent names network d → AreWritten d bytes.items)
wrote network configs costs (Ok bytes) same are written graph = λ names d is.
    are_written names network d costs bytes.items is are
    (written ∙ ap (λ (rs : List Router). bytes_of_all (written_lsas rs network.lsdb costs)) same) graph
wrote network configs costs (Err e) same are written graph = tt

-- whose IDs were tested
pub ids_refused : (names : InputFiles) (d : Input) (configs : List Router) (stop : Stop) →
    routers_of d.files ≡ configs → StopsAs (unless_refused (id_refused names) d (first_id_fault [] 0 configs)) [] stop →
    StopsAs (unless_refused (id_refused names) d (first_id_fault [] 0 (routers_of d.files))) [] stop
ids_refused names d configs stop same is = subst (λ (rs : List Router). StopsAs (unless_refused (id_refused names) d (first_id_fault [] 0 rs)) [] stop)
    (sym same) is

pub ids_ready : (names : InputFiles) (d : Input) (fault : Option IdFault) → fault ≡ None →
    IsReadAndMade (unless_refused (id_refused names) d fault) [] (λ (u : Unit {0}) said. said ≡ d) tt
ids_ready names d fault none = record { said = d; ends = says_unless (id_refused names) d fault none; fits = refl }

-- the IDs were tested without a fault
ids_fine : (names : InputFiles) (d : Input) (configs : List Router) (u : Unit {0}) →
    IsReadAndMade (unless_refused (id_refused names) d (first_id_fault [] 0 configs)) [] (λ (v : Unit {0}) said. said ≡ d) u →
    first_id_fault [] 0 configs ≡ None
ids_fine names d configs u ready = (said_unless (id_refused names) d ready.said (first_id_fault [] 0 configs) [] ready.ends).0

-- the network that was read, after its IDs were tested
pub identified : (names : InputFiles) (d : Input) (configs : List Router) (network : Network) (u : Unit {0}) → routers_of d.files ≡ configs →
    IsNetworkOf AtPresent names network d →
    IsReadAndMade (unless_refused (id_refused names) d (first_id_fault [] 0 configs)) [] (λ (v : Unit {0}) said. said ≡ d) u →
    IsReadAndMade (unless_refused (id_refused names) d (first_id_fault [] 0 (routers_of d.files))) [] (IsIdentified names) network
identified names d configs network u same is ready =
    let none : first_id_fault [] 0 (routers_of d.files) ≡ None = ap (first_id_fault [] 0) same ∙ ids_fine names d configs u ready in
    record {
      said = d;
      ends = says_unless (id_refused names) d (first_id_fault [] 0 (routers_of d.files)) none;
      fits = record { network_is = is; identified = none };
    }

-- what a report says of the network that was read
pub reported : (d : Input) (bytes : List ℕ) (report : Report) → AreWritten d bytes → Reports Done bytes report →
    MayLsas d report.status (bytes_in report.text)
reported d bytes report are is = subst (λ (s : Status). MayLsas d s (bytes_in report.text)) (sym is.status) (subst (AreWritten d) (sym is.text) are)

-- what the report of the network that was read came to
pub ended : (Given : List Taken → Type 0) (m : Reading Input) (names : InputFiles) (network : Network) (result : Result Report Stop) →
    Gave Given (λ came. IsReadAndMade m came (IsIdentified names) network) →
    IfOk result (λ report. (files : InputFiles) → (d : Input) → IsNetworkOf AtPresent files network d → MayLsas d report.status (bytes_in report.text)) →
    IfErr result (λ stop. stop ≡ stops.OutOfMemory) →
    Gave Given (λ came. IsReadAs m came (λ (report : Report) d. MayLsas d report.status (bytes_in report.text)) result)
ended Given m names network (Ok report) read made wanting = record {
  came = read.came;
  given = read.given;
  so = record { said = read.so.said; ends = read.so.ends; fits = made names read.so.said read.so.fits.network_is };
}
ended Given m names network (Err stop) read made wanting =
    subst (λ (s : Stop). Gave Given (λ came. StopsAs m came s)) (sym wanting) (gave_wanting Given m (IsIdentified names) network read)
