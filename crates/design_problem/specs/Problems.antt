-- A problem of design as a value.
use Rattle.std.specs.Prelude.{◌≡◌, ℕ, ◌<◌, ◌≤◌, List, [], map, length, slice_index, slice_index_or, All, Any}
use Rattle.std.specs.List.Sorted.{IsStrictlyIncreasing}
use Rattle.cost_base.specs.Words.{IsWord}
use Rattle.area_graph.specs.Area.{Area, FitsGraph, HasMetrics}
use Rattle.area_graph.specs.Paths.{Ends, IsPathOf}
use Rattle.area_graph.specs.Costs.{IsPriced}
use Rattle.design_problem.specs.declared.problem.VarName.{VarName}
use Rattle.design_problem.specs.declared.problem.Request.{Request}

-- a design problem: the graph, the names of its variables, their bounds, and the requests
pub record DesignProblem : Type 0 where
  pub graph : Area
  pub vars : List VarName
  pub low : List ℕ
  pub high : List ℕ
  pub requests : List Request

-- the ends of a request's path, and its excluded edges
abbrev pub request_ends : Request → Ends
request_ends r = record { start = r.path.start; end = r.end; excluded = r.excluded }

-- a request may exclude these edges of the graph: their numbers rise strictly, and each is an edge of it
abbrev pub MayBeExcluded : Area → List ℕ → Type 0
MayBeExcluded g excluded = IsStrictlyIncreasing excluded × All (λ e. e < length g.edges) excluded

-- what every problem keeps
pub record IsProblem (p : DesignProblem) : Type 0 where
  pub requests : All (λ r. IsPathOf p.graph (request_ends r) r.path.edges) p.requests
  pub excluded : All (λ r. MayBeExcluded p.graph r.excluded) p.requests
  pub low_count : length p.low ≡ length p.high
  pub var_count : length p.low ≤ 1000
  pub ordered : (k : ℕ) → k < length p.low → (1 ≤ slice_index p.low k) × (slice_index p.low k ≤ slice_index p.high k)
  pub priced : All (λ edge. IsPriced (length p.low) edge.price) p.graph.edges
  pub named : All (λ name. name.var < length p.low) p.vars
  pub each_named : (k : ℕ) → k < length p.low → Any (λ name. name.var ≡ k) p.vars
  pub words : All (λ name. IsWord name.router × IsWord name.interface) p.vars
  pub request_count : length p.requests ≤ 10000

-- what stands for a request past the end
abbrev pub no_request : Request
no_request = record { path = record { start = 0; edges = [] }; end = 0; excluded = [] }

-- the request of a number
abbrev pub request_at : List Request → ℕ → Request
request_at requests k = slice_index_or requests k no_request

-- the restricted problem of some requests: the same graph, variables and bounds, and only those requests
abbrev pub restricted : DesignProblem → List ℕ → DesignProblem
restricted p members = record { graph = p.graph; vars = p.vars; low = p.low; high = p.high; requests = map (request_at p.requests) members }

-- what every problem and its graph keep
pub record IsProblemOnGraph (p : DesignProblem) : Type 0 where
  pub problem : IsProblem p
  pub graph : FitsGraph p.graph
  pub metrics : HasMetrics p.graph
