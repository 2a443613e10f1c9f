-- The source of a search whose forms are those of the rivals of a problem's wanted paths.
use Rattle.std.specs.Prelude.{◌≡◌, ℕ, ◌+◌, ◌<◌, List, [], ◌++◌, slice_get}
use Rattle.area_graph.specs.declared.Point.{Point}
use Rattle.area_graph.specs.Costs.{cost}
use Rattle.design_problem.specs.Forms.{Form}
use Rattle.design_problem.specs.declared.form.Row.{Row}
use Rattle.design_problem.specs.Problems.{DesignProblem, IsProblemOnGraph}
use Rattle.design_problem.specs.Rows.{IsRivalOf, path_edges}
use Rattle.design_problem.specs.Earnest.{IsFormOfRow}
use Rattle.form_search.specs.Sources.{Grows}
use Rattle.cost_branching.specs.Pools.{MoreRows, Pooled}

-- a problem, and the rows that are known of it
pub record KnownRows : Type 0 where
  pub problem : DesignProblem
  pub rows : List Row

-- what stands for a problem where none is picked
abbrev pub no_problem : DesignProblem
no_problem = record { graph = record { vertices = []; edges = [] }; vars = []; low = []; high = []; requests = [] }

-- a true form: that of a row of the problem
pub record IsTrueRowForm (p : DesignProblem) (form : Form) : Type 0 where
  pub kept : IsProblemOnGraph p
  pub of_row : IsFormOfRow p form

-- a rival of a request that costs less at a point than its path and the scale
pub record IsRivalTooCheap (p : DesignProblem) (point : Point) (request : ℕ) (edges : List ℕ) : Type 0 where
  pub rival : IsRivalOf p.graph (slice_get p.requests request) edges
  pub cheap : cost p.graph point edges < cost p.graph point (path_edges (slice_get p.requests request)) + point.scale

-- the problem of a search and its pool's rows are those with which it began
pub record IsBegunWith (begun : DesignProblem) (first : List Row) (p : DesignProblem) (pool : Pooled) : Type 0 where
  pub problem : p ≡ begun
  pub rows : pool.rows ≡ first

-- rows of the problem came at the pool's end with their forms, and nothing else
pub record GrowsByRows (p : DesignProblem) (old new : Pooled) : Type 0 where
  pub rows : MoreRows old new
  pub forms : Grows (IsTrueRowForm p) old.forms new.forms

-- the rows of the second pool begin with those of the first
pub record BeginWith (first rows : List Row) : Type 0 where
  pub more : List Row
  pub same : rows ≡ first ++ more
