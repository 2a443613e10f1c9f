-- What an audit prints of wanted paths.
use Rattle.std.specs.Prelude.{◌≡◌, ℕ, ◌+◌, ◌<◌, List, [], ◌∷◌, ◌++◌, ◌==◌, if◌then◌else◌, Bool, true, false, codes}
use Rattle.std.specs.List.{AllZip}
use Rattle.cost_base.specs.Decimal.{decimal}
use Rattle.cost_base.specs.declared.Status.{Status}
use Rattle.cost_base.specs.declared.Status.TheVariants.{Done}
use Rattle.area_graph.specs.Area.{Area}
use Rattle.area_graph.specs.Costs.{IsOnlyCheapest, at_costs, cost}
use Rattle.spf_ties.specs.Distances.{IsLeastOfPaths}
use Rattle.design_problem.specs.declared.problem.Request.{Request}
use Rattle.design_problem.specs.Problems.{DesignProblem, request_ends}
use Rattle.path_commands.specs.declared.audit.Standing.{Standing}
use Rattle.path_commands.specs.declared.audit.Standing.TheVariants.{Only, Tied, Beaten}
use Rattle.path_commands.specs.declared.audit.AuditedPath.{AuditedPath}
use Rattle.input_files.specs.Outcomes.{Input}
use Rattle.report_writer.specs.declared.report.Report.{Report}
use Rattle.report_writer.specs.Reports.{Reports}
use Rattle.line_builder.specs.Words.{line_of_words}

-- how a wanted path of this cost stands among the simple paths of its request, of which none costs less than `least`
abbrev pub StandsAs : Area → Request → ℕ → ℕ → Standing → Type 0
StandsAs g r mine least Only = IsOnlyCheapest g (at_costs []) (request_ends r) r.path.edges
StandsAs g r mine least Tied = (IsOnlyCheapest g (at_costs []) (request_ends r) r.path.edges → ⊥) × (mine ≡ least)
StandsAs g r mine least Beaten = least < mine

-- how a wanted path of this cost stands against this least cost, by whether it is the only cheapest
abbrev pub standing_by : ℕ → ℕ → Bool → Standing
standing_by mine least true = Only
standing_by mine least false = if mine == least then Tied else Beaten

-- the cost of a wanted path at fixed costs, the least cost of all simple paths of its request, and how it stands
pub record IsAudited (g : Area) (r : Request) (path : AuditedPath) : Type 0 where
  pub cost_is : path.cost ≡ cost g (at_costs []) r.path.edges
  pub least_is : IsLeastOfPaths g (at_costs []) (request_ends r) path.least
  pub stands : StandsAs g r path.cost path.least path.standing

-- the word of an audit's line for how a path stands
abbrev pub standing_word : Standing → List ℕ
standing_word Only = codes "only"
standing_word Tied = codes "tied"
standing_word Beaten = codes "beaten"

-- the line of an audit for a wanted path: `path I cost C least L WORD`
abbrev pub audit_line : ℕ → AuditedPath → List ℕ
audit_line i path =
    line_of_words (codes "path" ∷ decimal i ∷ codes "cost" ∷ decimal path.cost ∷ codes "least" ∷ decimal path.least ∷ standing_word path.standing ∷ [])

-- the lines of an audit, one for each wanted path, from number i on
abbrev pub audit_lines : ℕ → List AuditedPath → List ℕ
audit_lines i [] = []
audit_lines i (path ∷ paths) = audit_line i path ++ audit_lines (i + 1) paths

-- the text of an audit of a problem without variables
pub record IsAudit (p : DesignProblem) (bytes : List ℕ) : Type 0 where
  pub paths : List AuditedPath
  pub audited : AllZip (IsAudited p.graph) p.requests paths
  pub spelled : bytes ≡ audit_lines 0 paths

-- what `audit` may write of the problem in which every interface stands at its present cost
abbrev pub MayAudit : Input → Status → List ℕ → Type 0
MayAudit d Done bytes = IsAudit d.problem bytes
MayAudit d status bytes = ⊥

-- the report of an audit of a problem without variables
pub record ReportsAudit (report : Report) (p : DesignProblem) : Type 0 where
  pub paths : List AuditedPath
  pub audited : AllZip (IsAudited p.graph) p.requests paths
  pub reports : Reports Done (audit_lines 0 paths) report
