-- What an audit of a running area prints of wanted paths.
use Rattle.std.specs.Prelude.{◌≡◌, ℕ, ◌+◌, List, [], ◌∷◌, ◌++◌, filter, length, slice_get, codes, Option, Some, None}
use Rattle.std.specs.List.{AllZip, list_any}
use Rattle.cost_base.specs.Decimal.{decimal}
use Rattle.cost_base.specs.Lists.{numbers_from}
use Rattle.cost_base.specs.declared.Status.{Status}
use Rattle.cost_base.specs.declared.Status.TheVariants.{Done}
use Rattle.area_graph.specs.Area.{Area}
use Rattle.area_graph.specs.Costs.{at_costs}
use Rattle.area_graph.specs.Paths.{Avoids}
use Rattle.lsdb_build.specs.Graphs.{Database}
use Rattle.spf_ties.specs.Distances.{IsLeastCost}
use Rattle.design_problem.specs.declared.problem.Request.{Request}
use Rattle.design_problem.specs.Problems.{DesignProblem, request_ends}
use Rattle.wanted_paths.specs.Paths.{link_excludes}
use Rattle.lsa_bytes.specs.declared.Lsa.{Lsa}
use Rattle.live_area.specs.LiveCosts.{missing_links, with_live_costs}
use Rattle.live_input.specs.LiveReadings.{live_read}
use Rattle.input_files.specs.declared.problem.View.TheVariants.{AtPresent}
use Rattle.input_files.specs.Inputs.{InputFiles}
use Rattle.input_files.specs.Layouts.{LaidOut, layout_read}
use Rattle.input_files.specs.Outcomes.{problem_read, routers_of}
use Rattle.input_files.specs.Readings.{Reading, Ready, ◌>>=◌}
use Rattle.report_writer.specs.declared.report.Report.{Report}
use Rattle.report_writer.specs.Reports.{Reports}
use Rattle.line_builder.specs.Words.{line_of_words}
use Rattle.path_commands.specs.declared.audit_live.LivePath.{LivePath}
use Rattle.path_commands.specs.declared.audit_live.LivePath.TheVariants.{Stands, Gone}
use Rattle.path_commands.specs.Audits.{IsAudited, audit_line}

-- a running area: what its files say, the LSAs of its live file, and the problem at the costs at which it runs
pub record Running : Type 0 where
  pub laid : LaidOut
  pub lsas : List Lsa
  pub problem : DesignProblem

-- the area of files with the metric of its link in place of each linked interface's cost, where it has a link
abbrev pub running_database : LaidOut → List Lsa → Database
running_database laid lsas = with_live_costs (routers_of laid.files) lsas laid.database

-- the problem at the costs at which an area runs; each linked interface needs one, that of its link or else that of its
-- configuration or the default
abbrev pub running_read : InputFiles → LaidOut → List Lsa → Reading Running
running_read names laid lsas =
    problem_read AtPresent names laid.asked (running_database laid lsas) >>= λ p. Ready (record { laid = laid; lsas = lsas; problem = p })

-- what the files of `audit --live` say: those of a network but for its costs, then the live file, then the costs
abbrev pub live_audit_read : InputFiles → List ℕ → Reading Running
live_audit_read names live = layout_read names >>= λ laid. live_read live laid.asked.area >>= λ lsas. running_read names laid lsas

-- the edges of linked interfaces, in both directions of their point-to-point links, or from and to their subnets
abbrev pub edges_of_links : Database → Area → List ℕ → List ℕ
edges_of_links d g links = filter (λ e. list_any (λ l. link_excludes d g l (slice_get d.links l) e) links) (numbers_from 0 (length g.edges))

-- the excluded edges of a running area: those of the linked interfaces that have no link there
abbrev pub excluded_live : Running → List ℕ
excluded_live now =
    let d = running_database now.laid now.lsas in
    edges_of_links d now.problem.graph (missing_links (routers_of now.laid.files) now.lsas now.laid.database.links)

-- a request that excludes these edges too
abbrev pub left_without : List ℕ → Request → Request
left_without exclusion r = record r { excluded = r.excluded ++ exclusion }

-- what is found of a wanted path where these edges are excluded: it is audited in what is left; or it has one of them,
-- and its request's least cost in what is left is told
abbrev pub IsFoundLive : Area → List ℕ → Request → LivePath → Type 0
IsFoundLive g exclusion r (Stands path) = Avoids exclusion r.path.edges × IsAudited g (left_without exclusion r) path
IsFoundLive g exclusion r (Gone least) = (Avoids exclusion r.path.edges → ⊥) × IsLeastCost g (at_costs []) (request_ends (left_without exclusion r)) least

-- the words `least L` for the least cost that is left, or `unreachable` where no path is left
abbrev pub left_words : Option ℕ → List (List ℕ)
left_words (Some least) = codes "least" ∷ decimal least ∷ []
left_words None = codes "unreachable" ∷ []

-- the line of a wanted path in a running area: that of an audit, or `path I gone least L`, or `path I gone unreachable`
abbrev pub live_line : ℕ → LivePath → List ℕ
live_line i (Stands path) = audit_line i path
live_line i (Gone least) = line_of_words (codes "path" ∷ decimal i ∷ codes "gone" ∷ left_words least)

-- the lines of an audit of a running area, one for each wanted path, from number i on
abbrev pub live_lines : ℕ → List LivePath → List ℕ
live_lines i [] = []
live_lines i (path ∷ paths) = live_line i path ++ live_lines (i + 1) paths

-- the text of an audit of a running area
pub record IsLiveAudit (now : Running) (bytes : List ℕ) : Type 0 where
  pub paths : List LivePath
  pub found : AllZip (IsFoundLive now.problem.graph (excluded_live now)) now.problem.requests paths
  pub spelled : bytes ≡ live_lines 0 paths

-- what `audit --live` may write of a running area
abbrev pub MayAuditLive : Running → Status → List ℕ → Type 0
MayAuditLive now Done bytes = IsLiveAudit now bytes
MayAuditLive now status bytes = ⊥

-- the report of what is found of the wanted paths of a problem in an area where linked interfaces have no link
pub record ReportsLive (d : Database) (missing : List ℕ) (report : Report) (p : DesignProblem) : Type 0 where
  pub paths : List LivePath
  pub found : AllZip (IsFoundLive p.graph (edges_of_links d p.graph missing)) p.requests paths
  pub reports : Reports Done (live_lines 0 paths) report
