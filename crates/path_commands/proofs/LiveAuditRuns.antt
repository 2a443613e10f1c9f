-- What an audit of a running area reports.
use Rattle.std.proofs.Common.{◌≡◌, ℕ, refl, ◌∙◌, ap, subst, List, [], ◌++◌, Result, Ok, Err}
use Rattle.std.specs.List.{AllZip}
use Rattle.cost_base.specs.declared.Status.TheVariants as status
use Rattle.cost_base.specs.Histories.{Taken}
use Rattle.interface_model.specs.Records.{Router}
use Rattle.lsdb_build.specs.Graphs.{Database}
use Rattle.design_problem.specs.Problems.{DesignProblem}
use Rattle.request_reader.specs.Asked.{Asked}
use Rattle.lsa_bytes.specs.declared.Lsa.{Lsa}
use Rattle.live_area.specs.declared.running.RunningArea.{RunningArea}
use Rattle.live_area.specs.LiveCosts.{missing_links, with_live_costs}
use Rattle.live_input.specs.LiveReadings.{live_read}
use Rattle.input_files.specs.declared.layout.Layout.{Layout}
use Rattle.input_files.specs.declared.problem.View.TheVariants.{AtPresent}
use Rattle.input_files.specs.declared.stop.Stop.{Stop}
use Rattle.input_files.specs.Inputs.{InputFiles}
use Rattle.input_files.specs.Layouts.{LaidOut, IsLayoutOf, layout_read}
use Rattle.input_files.specs.Outcomes.{problem_read, routers_of}
use Rattle.input_files.specs.Readings.{Reading, Ready, ◌>>=◌, Gave}
use Rattle.input_files.specs.Stops.{StopsAs, IsReadAndMade, IsReadAs}
use Rattle.input_files.proofs.Stops.{stops_first, read_then, gave_then, gave_made, gave_stop}
use Rattle.report_writer.specs.declared.report.Report.{Report}
use Rattle.report_writer.specs.Reports.{Reports, bytes_in}
use Rattle.report_writer.proofs.ReportLaws.{may_report}
use Rattle.path_commands.specs.declared.audit_live.LivePath.{LivePath}
use Rattle.path_commands.specs.LiveAudits.{Running, IsFoundLive, MayAuditLive, ReportsLive, edges_of_links, live_lines, running_database, running_read}

-- The rest of a reading behind each step.

abbrev running_at : LaidOut → List Lsa → DesignProblem → Running
running_at laid lsas p = record { laid = laid; lsas = lsas; problem = p }

abbrev pub after_layout : InputFiles → List ℕ → LaidOut → Reading Running
after_layout names live laid = live_read live laid.asked.area >>= λ lsas. running_read names laid lsas

-- what may be reported of what was read
abbrev pub MayReport : Report → Running → Type 0
MayReport report said = MayAuditLive said report.status (bytes_in report.text)

-- The area at the costs at which it runs.

-- what was made of the layout and the LSAs
pub record AreRunningParts (laid : LaidOut) (lsas : List Lsa) (asked : Asked) (d : Database) (missing : List ℕ) : Type 0 where
  pub same_asked : asked ≡ laid.asked
  pub same_base : d ≡ running_database laid lsas
  pub same_missing : missing ≡ missing_links (routers_of laid.files) lsas laid.database.links

pub running_parts : (layout : Layout) (laid : LaidOut) (configs : List Router) (lsas : List Lsa) (area : RunningArea) →
    IsLayoutOf layout laid → configs ≡ layout.configs.items → area.lsdb ≡ with_live_costs configs lsas layout.lsdb →
    area.missing.items ≡ missing_links configs lsas layout.lsdb.links → AreRunningParts laid lsas layout.request_file area.lsdb area.missing.items
running_parts layout laid configs lsas area is are costs missing = record {
  same_asked = is.request_file;
  same_base = costs ∙ ap (λ (rs : List Router). with_live_costs rs lsas layout.lsdb) (are ∙ is.configs)
      ∙ ap (λ (d : Database). with_live_costs (routers_of laid.files) lsas d) is.lsdb;
  same_missing = missing ∙ ap (λ (rs : List Router). missing_links rs lsas layout.lsdb.links) (are ∙ is.configs)
      ∙ ap (λ (d : Database). missing_links (routers_of laid.files) lsas d.links) is.lsdb;
}

-- what stops the problem stops all
problem_stops : (names : InputFiles) (laid : LaidOut) (lsas : List Lsa) (asked : Asked) (d : Database) (missing : List ℕ)
    (stop : Stop) → AreRunningParts laid lsas asked d missing → StopsAs (problem_read AtPresent names asked d) [] stop →
    StopsAs (running_read names laid lsas) [] stop
problem_stops names laid lsas asked d missing stop are h =
    stops_first (problem_read AtPresent names laid.asked (running_database laid lsas)) (λ p. Ready (running_at laid lsas p)) [] stop
    (subst (λ (x : Asked). StopsAs (problem_read AtPresent names x (running_database laid lsas)) [] stop) are.same_asked
    (subst (λ (e : Database). StopsAs (problem_read AtPresent names asked e) [] stop) are.same_base h))

-- the report of what was found of the problem
running_reported : (names : InputFiles) (laid : LaidOut) (lsas : List Lsa) (asked : Asked) (d : Database) (missing : List ℕ)
    (p : DesignProblem) (found : List LivePath) (bytes : List ℕ) (report : Report) → AreRunningParts laid lsas asked d missing →
    IsReadAndMade (problem_read AtPresent names asked d) [] (λ made read. made ≡ read) p →
    AllZip (IsFoundLive p.graph (edges_of_links d p.graph missing)) p.requests found → bytes ≡ live_lines 0 found →
    Reports status.Done bytes report → IsReadAndMade (running_read names laid lsas) [] MayReport report
running_reported names laid lsas asked d missing p found bytes report are made all spelled r =
    read_then (problem_read AtPresent names laid.asked (running_database laid lsas)) (λ q. Ready (running_at laid lsas q)) [] []
    (λ m q. m ≡ q) MayReport p (Ok report)
    (subst (λ (x : Asked). IsReadAndMade (problem_read AtPresent names x (running_database laid lsas)) [] (λ m q. m ≡ q) p) are.same_asked
    (subst (λ (e : Database). IsReadAndMade (problem_read AtPresent names asked e) [] (λ m q. m ≡ q) p) are.same_base made))
    (λ read same. record {
      said = running_at laid lsas read;
      ends = refl;
      fits = may_report (MayAuditLive (running_at laid lsas read)) status.Done bytes report r
          (record { paths = found; found = moved read same; spelled = spelled });
    })
  where
    moved : (read : DesignProblem) → p ≡ read → AllZip (IsFoundLive read.graph
        (edges_of_links (running_database laid lsas) read.graph (missing_links (routers_of laid.files) lsas laid.database.links))) read.requests found
    moved read same =
        subst (λ (q : DesignProblem). AllZip (IsFoundLive q.graph (edges_of_links (running_database laid lsas) q.graph
        (missing_links (routers_of laid.files) lsas laid.database.links))) q.requests found) same
        (subst (λ (e : Database). AllZip (IsFoundLive p.graph (edges_of_links e p.graph
        (missing_links (routers_of laid.files) lsas laid.database.links))) p.requests found) are.same_base
        (subst (λ (ms : List ℕ). AllZip (IsFoundLive p.graph (edges_of_links d p.graph ms)) p.requests found) are.same_missing all))

-- what the report of the problem came to
pub running_ended : (names : InputFiles) (laid : LaidOut) (lsas : List Lsa) (asked : Asked) (d : Database) (missing : List ℕ)
    (result : Result Report Stop) → AreRunningParts laid lsas asked d missing →
    IsReadAs (problem_read AtPresent names asked d) [] (ReportsLive d missing) result →
    IsReadAs (running_read names laid lsas) [] MayReport result
running_ended names laid lsas asked d missing (Ok report) are h =
    running_reported names laid lsas asked d missing h.said h.fits.paths (live_lines 0 h.fits.paths) report are
    (record { said = h.said; ends = h.ends; fits = refl }) h.fits.found refl h.fits.reports
running_ended names laid lsas asked d missing (Err stop) are h = problem_stops names laid lsas asked d missing stop are h

-- The live file behind the others.

-- what stops the live file stops all
pub live_stops : (First Later Both : List Taken → Type 0) (names : InputFiles) (live : List ℕ) (layout : Layout) (stop : Stop) →
    ((xs ys : List Taken) → First xs → Later ys → Both (xs ++ ys)) →
    Gave First (λ came. IsReadAndMade (layout_read names) came IsLayoutOf layout) →
    Gave Later (λ came. StopsAs (live_read live layout.request_file.area) came stop) →
    Gave Both (λ came. StopsAs (layout_read names >>= after_layout names live) came stop)
live_stops First Later Both names live layout stop more a b =
    gave_then First Later Both (layout_read names) (after_layout names live) IsLayoutOf MayReport layout (Err stop) more a
    (λ laid is. gave_stop Later (live_read live laid.asked.area) (running_read names laid) stop
    (subst (λ (x : Asked). Gave Later (λ came. StopsAs (live_read live x.area) came stop)) is.request_file b))

-- what is made of the layout and the LSAs is made of all
pub live_made : (First Later Both : List Taken → Type 0) (names : InputFiles) (live : List ℕ) (layout : Layout) (database : List Lsa)
    (result : Result Report Stop) → ((xs ys : List Taken) → First xs → Later ys → Both (xs ++ ys)) →
    Gave First (λ came. IsReadAndMade (layout_read names) came IsLayoutOf layout) →
    Gave Later (λ came. IsReadAndMade (live_read live layout.request_file.area) came (λ made lsas. made ≡ lsas) database) →
    ((laid : LaidOut) → IsLayoutOf layout laid → IsReadAs (running_read names laid database) [] MayReport result) →
    Gave Both (λ came. IsReadAs (layout_read names >>= after_layout names live) came MayReport result)
live_made First Later Both names live layout database result more a b h =
    gave_then First Later Both (layout_read names) (after_layout names live) IsLayoutOf MayReport layout result more a
    (λ laid is. gave_made Later (live_read live laid.asked.area) (running_read names laid) (λ made lsas. made ≡ lsas) MayReport database result
    (subst (λ (x : Asked). Gave Later (λ came. IsReadAndMade (live_read live x.area) came (λ made lsas. made ≡ lsas) database)) is.request_file b)
    (λ lsas same. subst (λ (read : List Lsa). IsReadAs (running_read names laid read) [] MayReport result) same (h laid is)))
